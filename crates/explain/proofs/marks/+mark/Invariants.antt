use Rattle.std.proofs.Common.{◌≡◌, ◌≤◌, map, drop}
use Rattle.std.specs.Iterator.Adapters.{zip_first, zip_second}
use Rattle.std.specs.Slice.Iter.{iter_rest}
use Rattle.model.specs.Meaning.{held_rule}
use Rattle.explain.proofs.Marking.{Underway}
use Rattle.explain.proofs.marks.+mark.Given as goal

abbrev pub decreases-mark : goal.decreases-mark
decreases-mark l = l.atom

abbrev pub invariant-loop-lower : goal.invariant-loop-lower
invariant-loop-lower l =
    let left = zip_first l.lower-iterator in
    goal.iterator-loop-lower.can_next l.lower-iterator × goal.iterator-loop-lower.is_finite l.lower-iterator
    × (left.end ≡ l.atom) × (left.start ≤ l.atom) × (iter_rest (zip_second l.lower-iterator) ≡ drop left.start (iter_rest (zip_second l.initial.lower-iterator)))
    × Underway (map held_rule l.rules) l.atom l.initial.marks l.marks left.start
