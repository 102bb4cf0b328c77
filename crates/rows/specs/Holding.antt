-- What an antichain over a lent slice holds.
use Rattle.std.specs.Prelude.{◌≡◌, ℕ, max, List, length, take, drop}
use Rattle.rows.specs.declared.antichain.Antichain.{Antichain}

-- what is held, in order: the first `held` of the slice, or all of it where that is more
abbrev pub listed : {V : Type 0} → Antichain V → List V
listed c = take c.held c.items.now

-- for how many there is room
abbrev pub room : {V : Type 0} → Antichain V → ℕ
room c = length c.items.now

-- past what either of two antichains holds, their slices hold the same
abbrev pub AlikePast : {V : Type 0} → Antichain V → Antichain V → Type 0
AlikePast c d =
    let more = max (length (listed c)) (length (listed d)) in
    drop more d.items.now ≡ drop more c.items.now
