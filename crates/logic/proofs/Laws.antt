-- More laws of rows: what is compatible, and the orders of rows as lists.
use Rattle.std.proofs.Common.{◌≡◌, true, false, [], ◌∷◌, refl, ◌∙◌, arith}
use Rattle.std.proofs.lemmas.Bool.{false≢true, and_parts, and_from}
use Rattle.std.proofs.lemmas.Bool.Decides.{nat_tests}
use Rattle.rows.specs.Orders.{Orders}
use Rattle.rows.specs.Rows.{contains, compatible, union, earlier}
use Rattle.rows.specs.RowLaws.{contains_itself, contains_through, contains_same, earlier_apart, earlier_onward, earlier_total, union_says_both}
use Rattle.logic.specs.Options.{Row}
use Rattle.logic.specs.Minimals.{under}

pub orders : Orders (λ (r : Row). true) under earlier
orders = record {
  itself = λ x _. contains_itself x;
  through = λ x y z _ _ _. contains_through x y z;
  same = λ x y _ _. contains_same x y;
  apart = λ x _. earlier_apart x;
  onward = λ x y z _ _ _. earlier_onward x y z;
  total = λ x y _ _. earlier_total x y;
}

-- two rows that are contained in one are compatible
pub compatible_under : (w r s : Row) → contains w r ≡ true → contains w s ≡ true → compatible r s ≡ true
compatible_under [] [] [] h k = refl
compatible_under [] [] (y ∷ ys) h k = k
compatible_under [] (x ∷ xs) s h k = absurd (false≢true h)
compatible_under (w ∷ ws) [] s h k = absurd (false≢true h)
compatible_under (w ∷ ws) (x ∷ xs) [] h k = k
compatible_under (w ∷ ws) (x ∷ xs) (y ∷ ys) h k = let t = compatible_under ws xs ys in grind (arith, nat_tests)

-- what contains a row opposes what the row opposes
pub opposes_up : (r c m : Row) → contains r c ≡ true → compatible c m ≡ false → compatible r m ≡ false
opposes_up [] [] [] h k = k
opposes_up [] [] (z ∷ zs) h k = k
opposes_up [] (y ∷ ys) m h k = absurd (false≢true h)
opposes_up (x ∷ xs) [] m h k = absurd (false≢true h)
opposes_up (x ∷ xs) (y ∷ ys) [] h k = k
opposes_up (x ∷ xs) (y ∷ ys) (z ∷ zs) h k = let t = opposes_up xs ys zs in grind (arith, nat_tests)

-- what contains a union contains both, and the other way round
module _ (r s : Row) (c : compatible r s ≡ true) where
  pub contains_union : (w : Row) → contains w r ≡ true → contains w s ≡ true → contains w (union r s) ≡ true
  contains_union w h k = union_says_both r s c w ∙ and_from _ _ h k

  pub union_parts : (w : Row) → contains w (union r s) ≡ true → (contains w r ≡ true) × (contains w s ≡ true)
  union_parts w h = and_parts _ _ (rw (union_says_both r s c w) at h)

  pub union_both : (contains (union r s) r ≡ true) × (contains (union r s) s ≡ true)
  union_both = union_parts (union r s) (contains_itself (union r s))
