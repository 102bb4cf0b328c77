-- The words of rows and of kept lists, as tests of all elements, of any, or of the first that passes.
use Rattle.std.proofs.Common.{◌≡◌, ℕ, suc, ◌+◌, Bool, cond, not, ◌&&◌, ◌||◌, List, [], ◌∷◌, length, take, eqb, ltb, ltb-false, Option, Some, None, refl, ap, ◌∙◌, arith}
use Rattle.std.specs.Option.{unwrap_or}
use Rattle.std.proofs.lemmas.List.Sums.{prefix_len-le-length}
use Rattle.std.specs.List.{list_any, list_all, zip, insert, position_or_len}
use Rattle.std.proofs.lemmas.Bool.{cond-true, cond_both}
use Rattle.rows.specs.Keeping.{covered, spared, placed}
use Rattle.rows.specs.Rows.{contains, compatible}

-- the first place that passes, or their number
pub position_found : {V : Type 0} (p : V → Bool) (xs : List V) (r : Option ℕ) → r ≡ cond (ltb (position_or_len p xs) (length xs)) (Some (position_or_len p xs)) None → unwrap_or r (length xs) ≡ position_or_len p xs
position_found p xs r e =
    let n = position_or_len p xs in
    ap (λ o. unwrap_or o (length xs)) e ∙ cond_both (ltb n (length xs)) (Some n) None (λ o. unwrap_or o (length xs) ≡ n) (λ _. refl) (λ f. omega (arith, prefix_len-le-length (λ x. not (p x)) xs, ltb-false _ _ f))

module _ {V : Type 0} (below : V → V → Bool) (x : V) where
  pub covered_any : (ys : List V) → covered below ys x ≡ list_any (λ y. below y x) ys
  covered_any [] = refl
  covered_any (y ∷ ys) = ap (λ b. below y x || b) (covered_any ys)

  -- those before the first that x is at or below stay
  pub spared_before : (ys : List V) → spared below x (take (position_or_len (below x) ys) ys) ≡ take (position_or_len (below x) ys) ys
  spared_before [] = refl
  spared_before (y ∷ ys) =
      let n = position_or_len (below x) ys in
      let next : 1 + n ≡ suc n = omega arith in
      cond_both (not (below x y)) (1 + n) 0 (λ k. spared below x (take k (y ∷ ys)) ≡ take k (y ∷ ys))
      (λ t. rw next (cond-true _ _ _ t ∙ ap (λ l. y ∷ l) (spared_before ys))) (λ _. refl)

  -- x goes in before the first that it precedes
  pub placed_first : (ys : List V) → placed below x ys ≡ insert ys (position_or_len (below x) ys) x
  placed_first [] = refl
  placed_first (y ∷ ys) =
      let next : 1 + position_or_len (below x) ys ≡ suc (position_or_len (below x) ys) = omega arith in
      cond_both (below x y) (x ∷ y ∷ ys) (y ∷ placed below x ys) (λ l. l ≡ insert (y ∷ ys) (position_or_len (below x) (y ∷ ys)) x)
      (λ t. rw t refl) (λ f. rw (f, next) (ap (λ l. y ∷ l) (placed_first ys)))

pub contains_all : (xs ys : List ℕ) → length xs ≡ length ys → contains xs ys ≡ list_all (λ p. (eqb p.1 0 || eqb p.0 p.1)) (zip xs ys)
contains_all [] [] h = refl
contains_all [] (y ∷ ys) h = absurd (omega (arith, h))
contains_all (x ∷ xs) [] h = absurd (omega (arith, h))
contains_all (x ∷ xs) (y ∷ ys) h = ap (λ b. (eqb y 0 || eqb x y) && b) (contains_all xs ys (omega (arith, h)))

pub compatible_all : (xs ys : List ℕ) → length xs ≡ length ys → compatible xs ys ≡ list_all (λ p. (eqb p.0 0 || (eqb p.1 0 || eqb p.0 p.1))) (zip xs ys)
compatible_all [] [] h = refl
compatible_all [] (y ∷ ys) h = absurd (omega (arith, h))
compatible_all (x ∷ xs) [] h = absurd (omega (arith, h))
compatible_all (x ∷ xs) (y ∷ ys) h = ap (λ b. (eqb x 0 || (eqb y 0 || eqb x y)) && b) (compatible_all xs ys (omega (arith, h)))
