-- A list of elements of which none is below another, kept in order, and one more that is put to it.
use Rattle.std.specs.Prelude.{ℕ, Bool, false, cond, not, ◌||◌, List, [], ◌∷◌, length, take, Some, None, Ok, Err, filter, Option, Result, nat_le}

-- one of ys is at or below x
abbrev pub covered : {V : Type 0} → (V → V → Bool) → List V → V → Bool
covered below [] x = false
covered below (y ∷ ys) x = below y x || covered below ys x

-- those of ys that x is not at or below
abbrev pub spared : {V : Type 0} → (V → V → Bool) → V → List V → List V
spared below x ys = filter (λ y. not (below x y)) ys

-- x goes in before the first of ys that it precedes
abbrev pub placed : {V : Type 0} → (V → V → Bool) → V → List V → List V
placed before x [] = x ∷ []
placed before x (y ∷ ys) = cond (before x y) (x ∷ y ∷ ys) (y ∷ placed before x ys)

-- ys, unless they are more than the limit
abbrev pub within : {V : Type 0} → ℕ → List V → Option (List V)
within limit ys = cond (nat_le (length ys) limit) (Some ys) None

-- what is held once x was put to ys, or none where that would pass the limit
abbrev pub kept : {V : Type 0} → (V → V → Bool) → (V → V → Bool) → ℕ → List V → V → Option (List V)
kept below before limit ys x = cond (covered below ys x) (Some ys) (within limit (placed before x (spared below x ys)))

-- the next step, unless the one before it was refused
abbrev pub and_then : {V : Type 0} → Option (List V) → (List V → Option (List V)) → Option (List V)
and_then (Some ys) next = next ys
and_then None next = None

-- what is held once each of xs was put to ys, one after another
abbrev pub kept_all : {V : Type 0} → (V → V → Bool) → (V → V → Bool) → ℕ → List V → List V → Option (List V)
kept_all below before limit ys [] = Some ys
kept_all below before limit ys (x ∷ xs) = and_then (kept below before limit ys x) (λ zs. kept_all below before limit zs xs)

-- what an answer with a count says: the first n of the slice are held, or the put was refused
abbrev pub shown : {V E : Type 0} → Result ℕ E → List V → Option (List V)
shown (Ok n) items = Some (take n items)
shown (Err e) items = None

-- what an answer without a count says: ys are held, or the put was refused
abbrev pub told : {V U E : Type 0} → Result U E → List V → Option (List V)
told (Ok u) ys = Some ys
told (Err e) ys = None
