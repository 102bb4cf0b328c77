use Rattle.std.proofs.Common.{◌≡◌, map, drop}
use Rattle.logic.specs.Atoms.{body_from}
use Rattle.model.specs.Meaning.{meaning}
use Rattle.explain.specs.Conjunctions.{rows_in}
use Rattle.explain.specs.Options.{options_of}
use Rattle.explain.specs.Tables.{lower_lists}
use Rattle.explain.proofs.atoms.conjoin_body.Given as goal

abbrev pub invariant-loop-literal : goal.invariant-loop-literal
invariant-loop-literal l =
    let os = options_of l.known.board in
    let t = lower_lists l.known in
    body_from 64 os t (rows_in l.rows) (map meaning (drop l.literal-index l.body)) ≡ body_from 64 os t (rows_in l.initial.rows) (map meaning l.body)
