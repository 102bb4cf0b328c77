use Rattle.std.proofs.Common.{◌≡◌, ℕ, ◌<◌, ◌||◌, eqb, map, drop}
use Rattle.logic.specs.Needed.{used}
use Rattle.model.specs.Meaning.{held_rule}
use Rattle.explain.specs.Marks.{marked}
use Rattle.explain.proofs.marks.atoms_used.Given as goal

abbrev pub invariant-loop-rule : goal.invariant-loop-rule
invariant-loop-rule l =
    (a : ℕ) → a < 25 → (marked l.marks a || used (map held_rule (drop l.rule-index l.rules)) (λ head. eqb head l.atom) a) ≡ used (map held_rule l.rules) (λ head. eqb head l.atom) a
