use Rattle.std.proofs.Common.{arith, rules}
use Rattle.std.proofs.lemmas.List.Filters.{FiltersInPlace-more_no, FiltersInPlace-more_set}
use Rattle.std.proofs.lemmas.List.{get_or_read}
use Rattle.rows.proofs.list.remove_above.Goals as goal
use Rattle.rows.proofs.list.remove_above.Goals.{then-not-at_or_below, else-not-at_or_below}

pub loop-i-preserved : goal.loop-i-preserved
loop-i-preserved g c =
    elim c.if-not-at_or_below.branch [
      | then-not-at_or_below w ↦
          let again = get_or_read c.loop-i.items c.loop-i.i w.index-items-i-then-not-at_or_below.result (search rules) w.index-items-i-then-not-at_or_below.is c.index-items-i.result in
          rw (w.items-is, w.left-is) (FiltersInPlace-more_set c.loop-i.invariant (search rules) (grind arith) w.index-items-i-then-not-at_or_below.is)
      | else-not-at_or_below w ↦ rw (w.items-is, w.left-is) (FiltersInPlace-more_no c.loop-i.invariant (search rules) (grind arith) c.index-items-i.is)
    ]
