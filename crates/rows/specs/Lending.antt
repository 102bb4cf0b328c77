-- What a list in a lent slice holds, and how it grows.
use Rattle.std.specs.Prelude.{◌≡◌, ℕ, ◌<◌, List, ◌++◌, length, take, drop, Ok, Err, Result}
use Rattle.rows.specs.declared.lent.Lent.{Lent}

-- what is held, in order
abbrev pub items : {V : Type 0} → Lent V → List V
items l = take l.len l.places.now

-- for how many there is room
abbrev pub room : {V : Type 0} → Lent V → ℕ
room l = length l.places.now

-- it is the same slice, as long as before
pub record SameLoan {V : Type 0} (before after : Lent V) : Type 0 where
  pub lender : after.places.ghost_name ≡ before.places.ghost_name
  pub size : room after ≡ room before

-- ys stand behind what was held, and the places past them hold what they held
pub record Extended {V : Type 0} (before after : Lent V) (ys : List V) : Type 0 where
  pub loan : SameLoan before after
  pub listed : items after ≡ items before ++ ys
  pub past : drop (length (items after)) after.places.now ≡ drop (length (items after)) before.places.now

-- what an answer says of ys that were to be appended: they are, or there is no room for them
abbrev pub Grown : {V E : Type 0} → Lent V → Lent V → List V → Result Unit E → Type 0
Grown before after ys (Ok u) = Extended before after ys
Grown before after ys (Err e) = SameLoan before after × (room before < length (items before ++ ys))
