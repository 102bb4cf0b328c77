-- Well-formed rows and worlds, place by place: the empty row, the row of one choice, and unions.
use Rattle.std.proofs.Common.{◌≡◌, ℕ, zero, suc, ◌<◌, ◌≤◌, Bool, true, false, cond, ◌&&◌, ◌||◌, eqb, [], ◌∷◌, length, get_or, refl, ap, ◌∙◌, inl, inr, arith}
use mathlib.Core.Bool.{and-true}
use Rattle.std.specs.List.{AllByRecursion}
use Rattle.std.proofs.lemmas.Bool.{false≢true}
use Rattle.rows.specs.Minimal.{Among}
use Rattle.rows.specs.Rows.{contains, union}
use Rattle.logic.specs.Options.{Row, Options, SoundOptions, Taken, World, OpenChoice, Formed}
use Rattle.logic.specs.Duals.{empty, alone}

-- the empty row is well-formed, and is in every well-formed row and every world
pub empty_formed : (os : Options) → Formed os (empty os)
empty_formed [] = tt
empty_formed (o ∷ os) = (inl refl, empty_formed os)

pub contains_empty : (os : Options) (r : Row) → Formed os r → contains r (empty os) ≡ true
contains_empty [] [] f = refl
contains_empty [] (x ∷ xs) f = absurd f
contains_empty (o ∷ os) [] f = absurd f
contains_empty (o ∷ os) (x ∷ xs) f = contains_empty os xs f.1

pub world_empty : (os : Options) (w : Row) → World os w → contains w (empty os) ≡ true
world_empty [] [] f = refl
world_empty [] (x ∷ xs) f = absurd f
world_empty (o ∷ os) [] f = absurd f
world_empty (o ∷ os) (x ∷ xs) f = world_empty os xs f.1

pub union_formed : (os : Options) (a b : Row) → Formed os a → Formed os b → Formed os (union a b)
union_formed [] [] b f g = tt
union_formed [] (x ∷ xs) b f g = absurd f
union_formed (o ∷ os) [] b f g = absurd f
union_formed (o ∷ os) (x ∷ xs) [] f g = absurd g
union_formed (o ∷ os) (x ∷ xs) (y ∷ ys) f g = (pick (eqb x 0), union_formed os xs ys f.1 g.1)
  where
    pick : (t : Bool) → OpenChoice o (cond t y x)
    pick true = g.0
    pick false = f.0

-- what holds at one place
pub place_sound : (os : Options) (place : ℕ) → SoundOptions os → AllByRecursion (λ n. 0 < n) (get_or os place [])
place_sound [] place b = tt
place_sound (o ∷ os) zero b = b.0
place_sound (o ∷ os) (suc place) b = place_sound os place b.1

pub place_formed : (os : Options) (r : Row) (place : ℕ) → Formed os r → OpenChoice (get_or os place []) (get_or r place 0)
place_formed [] [] place f = inl refl
place_formed [] (x ∷ xs) place f = absurd f
place_formed (o ∷ os) [] place f = absurd f
place_formed (o ∷ os) (x ∷ xs) zero f = f.0
place_formed (o ∷ os) (x ∷ xs) (suc place) f = place_formed os xs place f.1

pub place_taken : (os : Options) (w : Row) (place : ℕ) → World os w → Taken (get_or os place []) (get_or w place 0)
place_taken [] [] place v = refl
place_taken [] (x ∷ xs) place v = absurd v
place_taken (o ∷ os) [] place v = absurd v
place_taken (o ∷ os) (x ∷ xs) zero v = v.0
place_taken (o ∷ os) (x ∷ xs) (suc place) v = place_taken os xs place v.1

pub place_below : (os : Options) (place n : ℕ) → Among (get_or os place []) n → place < length os
place_below [] place n i = absurd i
place_below (o ∷ os) zero n i = omega arith
place_below (o ∷ os) (suc place) n i = omega (arith, place_below os place n i)

-- the row of one choice alone
pub alone_formed : (os : Options) (place n : ℕ) → 2 ≤ length (get_or os place []) → Among (get_or os place []) n → Formed os (alone os place n)
alone_formed [] place n two i = absurd i
alone_formed (o ∷ os) zero n two i = (inr (two, i), empty_formed os)
alone_formed (o ∷ os) (suc place) n two i = (inl refl, alone_formed os place n two i)

pub alone_contains : (os : Options) (r : Row) (place n : ℕ) → contains r (empty os) ≡ true → place < length os → contains r (alone os place n) ≡ (eqb n 0 || eqb (get_or r place 0) n)
alone_contains [] r place n h l = absurd (omega arith)
alone_contains (o ∷ os) [] place n h l = absurd (false≢true h)
alone_contains (o ∷ os) (x ∷ xs) zero n h l = ap (λ b. (eqb n 0 || eqb x n) && b) h ∙ and-true (eqb n 0 || eqb x n)
alone_contains (o ∷ os) (x ∷ xs) (suc place) n h l = alone_contains os xs place n h (omega arith)
