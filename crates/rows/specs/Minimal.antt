-- What a run keeps, without a word of how it keeps it.
use Rattle.std.specs.Prelude.{◌≡◌, ℕ, Bool, true, ◌⊎◌, ◌↔◌, List, [], ◌∷◌, Some}
use Rattle.std.specs.List.{AllByRecursion}
use Rattle.rows.specs.Keeping.{covered, kept_all}

-- e is one of xs
abbrev pub Among : {V : Type 0} → List V → V → Type 0
Among [] e = ⊥
Among (x ∷ xs) e = (x ≡ e) ⊎ Among xs e

-- all of xs are valid
abbrev pub AllValid : {V : Type 0} → (V → Bool) → List V → Type 0
AllValid valid xs = AllByRecursion (λ x. valid x ≡ true) xs

-- e is one of xs, and none of them is below it but itself
abbrev pub Minimal : {V : Type 0} → (V → V → Bool) → List V → V → Type 0
Minimal {V} below xs e = Among xs e × ((y : V) → Among xs y → below y e ≡ true → y ≡ e)

-- each comes before all that follow it
abbrev pub Ascending : {V : Type 0} → (V → V → Bool) → List V → Type 0
Ascending before [] = Unit {0}
Ascending {V} before (x ∷ xs) = ((e : V) → Among xs e → before x e ≡ true) × Ascending before xs

-- none stands there twice
abbrev pub Once : {V : Type 0} → List V → Type 0
Once [] = Unit {0}
Once (x ∷ xs) = (Among xs x → ⊥) × Once xs

-- ys are the minimal ones of xs: these and no others, each once, in order
pub record Minimals {V : Type 0} (below before : V → V → Bool) (xs ys : List V) : Type 0 where
  pub members : (e : V) → Among ys e ↔ Minimal below xs e
  pub once : Once ys
  pub ascending : Ascending before ys

-- for each valid w, one of ys is at or below it exactly when one of xs is
abbrev pub CoversAlike : {V : Type 0} → (V → Bool) → (V → V → Bool) → List V → List V → Type 0
CoversAlike {V} valid below xs ys = (w : V) → valid w ≡ true → covered below ys w ≡ covered below xs w

-- xs and ys have the same members, in any order
abbrev pub Alike : {V : Type 0} → List V → List V → Type 0
Alike {V} xs ys = (e : V) → Among xs e ↔ Among ys e

-- each run over the members of xs, in any order and at any limit, that is not refused keeps ys
abbrev pub InAnyOrder : {V : Type 0} → (V → V → Bool) → (V → V → Bool) → List V → List V → Type 0
InAnyOrder {V} below before xs ys =
    (limit : ℕ) (others zs : List V) → Alike xs others → kept_all below before limit [] others ≡ Some zs → ys ≡ zs
