-- The examples compute.
use Rattle.std.proofs.Common.{refl}
use Rattle.logic.specs.Rules.{all_true, some_true, settled, truth}
use Rattle.logic.specs.Needed.{uses, used, reached, needed}
use Rattle.logic.specs.Duals.{contrary_below, all_unions, duals_from, duals}
use Rattle.logic.specs.Atoms.{rows_at, body_from, bodies_from, worked, table}
use Rattle.logic.specs.Examples.{Examples}

pub examples : Examples
unfolding all_true some_true settled truth uses used reached needed contrary_below all_unions duals_from duals rows_at body_from bodies_from worked table
examples = record { derived = refl; not_derived = refl; opposed = refl; answered = refl; refused = refl; left_out = refl }
