use Rattle.std.proofs.Common.{◌≡◌, ℕ, ◌<◌, ◌||◌, map, length, drop}
use Rattle.logic.specs.Needed.{uses}
use Rattle.model.specs.Meaning.{meaning}
use Rattle.explain.specs.Marks.{marked}
use Rattle.explain.proofs.marks.mark_body.Given as goal

abbrev pub invariant-loop-literal : goal.invariant-loop-literal
invariant-loop-literal l =
    (length l.marks ≡ 25)
    × ((a : ℕ) → a < 25 → (marked l.marks a || uses (map meaning (drop l.literal-index l.body)) a) ≡ (marked l.initial.marks a || uses (map meaning l.body) a))
