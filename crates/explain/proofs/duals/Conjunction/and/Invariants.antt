use Rattle.std.proofs.Common.{◌≡◌, drop}
use Rattle.rows.specs.Holding.{listed, room}
use Rattle.logic.specs.Duals.{put_rows, all_unions, conjoined}
use Rattle.explain.specs.Lists.{as_lists}
use Rattle.explain.proofs.duals.Conjunction.and.Given as goal

abbrev pub invariant-loop-row : goal.invariant-loop-row
invariant-loop-row l =
    (room l.next ≡ 64)
    × (l.next.items.ghost_name ≡ l.initial.next.items.ghost_name)
    × (put_rows 64 (as_lists (listed l.next)) (all_unions (as_lists (drop l.row-index l.row-items)) (as_lists l.others)) ≡ conjoined 64 (as_lists l.row-items) (as_lists l.others))
