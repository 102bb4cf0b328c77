-- The answers compute.
use Rattle.std.proofs.Common.{refl}
use Rattle.logic.specs.Needed.{uses, used, reached, needed}
use Rattle.logic.specs.Duals.{contrary_below, all_unions, duals_from, duals}
use Rattle.logic.specs.Atoms.{rows_at, body_from, bodies_from, worked, table}
use Rattle.explain.specs.Boards.{Boards}
use Rattle.explain.specs.Explaining.{explaining}
use Rattle.explain.specs.Options.{options}

pub boards : Boards
unfolding uses used reached needed contrary_below all_unions duals_from duals rows_at body_from bodies_from worked table explaining options
boards = record { common = refl; joint = refl; supposed = refl; three_choices = refl; no_rule = refl; fact = refl }
