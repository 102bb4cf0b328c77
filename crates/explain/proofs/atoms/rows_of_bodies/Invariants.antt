use Rattle.std.proofs.Common.{◌≡◌, [], map, drop}
use Rattle.rows.specs.Holding.{listed, room}
use Rattle.logic.specs.Atoms.{bodies_from}
use Rattle.logic.specs.Rules.{rules_for}
use Rattle.model.specs.Meaning.{held_rule}
use Rattle.explain.specs.Lists.{as_lists}
use Rattle.explain.specs.Options.{options_of}
use Rattle.explain.specs.Tables.{lower_lists}
use Rattle.explain.proofs.atoms.rows_of_bodies.Given as goal

abbrev pub invariant-loop-rule : goal.invariant-loop-rule
invariant-loop-rule l =
    let os = options_of l.known.board in
    let t = lower_lists l.known in
    (room l.bodies ≡ 64)
    × (bodies_from 64 os t (as_lists (listed l.bodies)) (rules_for (map held_rule (drop l.rule-index l.rule-items)) l.atom) ≡ bodies_from 64 os t [] (rules_for (map held_rule l.rule-items) l.atom))
