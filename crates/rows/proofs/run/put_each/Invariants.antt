use Rattle.std.proofs.Common.{◌≡◌, ◌+◌, ◌≤◌, length, drop}
use Rattle.rows.specs.Holding.{listed, room}
use Rattle.rows.specs.Keeping.{kept_all}
use Rattle.rows.proofs.run.put_each.Given as goal

abbrev pub invariant-loop-x : goal.invariant-loop-x
invariant-loop-x g l =
    let m = g.T.Ordered in
    let limit = room l.initial.list in
    (room l.list ≡ limit)
    × (l.list.items.ghost_name ≡ l.initial.list.items.ghost_name)
    × (kept_all m.below m.before limit (listed l.list) (drop l.x-index l.from) ≡ kept_all m.below m.before limit (listed l.initial.list) l.from)
    × (length (listed l.list) ≤ l.held + l.x-index)
    × (drop (l.held + l.x-index) l.list.items.now ≡ drop (l.held + l.x-index) l.initial.list.items.now)
