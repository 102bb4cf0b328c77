use Rattle.std.proofs.Common.{◌≡◌, drop}
use Rattle.rows.specs.Holding.{listed, room}
use Rattle.logic.specs.Duals.{put_rows, unions}
use Rattle.explain.specs.Lists.{as_lists}
use Rattle.explain.proofs.duals.put_unions.Given as goal

abbrev pub invariant-loop-other : goal.invariant-loop-other
invariant-loop-other l =
    let limit = room l.initial.list in
    (room l.list ≡ limit)
    × (l.list.items.ghost_name ≡ l.initial.list.items.ghost_name)
    × (put_rows limit (as_lists (listed l.list)) (unions l.row.choices (as_lists (drop l.other-index l.others))) ≡ put_rows limit (as_lists (listed l.initial.list)) (unions l.row.choices (as_lists l.others)))
