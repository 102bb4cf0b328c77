use Rattle.std.proofs.Common.{◌≡◌, drop}
use Rattle.logic.specs.Duals.{duals, duals_from}
use Rattle.explain.specs.Conjunctions.{rows_in}
use Rattle.explain.specs.Lists.{as_lists}
use Rattle.explain.specs.Options.{options_of}
use Rattle.explain.proofs.duals.duals.Given as goal

abbrev pub invariant-loop-member : goal.invariant-loop-member
invariant-loop-member l =
    let os = options_of l.board in
    duals_from 64 os (rows_in l.duals) (as_lists (drop l.member-index l.members)) ≡ duals 64 os (as_lists l.members)
