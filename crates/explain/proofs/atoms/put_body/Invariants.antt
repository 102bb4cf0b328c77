use Rattle.std.proofs.Common.{◌≡◌, drop}
use Rattle.rows.specs.Holding.{listed, room}
use Rattle.rows.specs.Keeping.{kept_all}
use Rattle.rows.specs.Worlds.{inside, sooner}
use Rattle.explain.proofs.atoms.put_body.Given as goal

abbrev pub invariant-loop-row : goal.invariant-loop-row
invariant-loop-row l =
    let limit = room l.initial.bodies in
    (room l.bodies ≡ limit)
    × (l.bodies.items.ghost_name ≡ l.initial.bodies.items.ghost_name)
    × (kept_all inside sooner limit (listed l.bodies) (drop l.row-index l.row-items) ≡ kept_all inside sooner limit (listed l.initial.bodies) l.row-items)
