-- The laws of rows as lists, and the turns of the loop of `union`.
use Rattle.std.specs.Prelude.{◌≡◌, ℕ, zero, suc, ◌+◌, ◌<◌, ◌≤◌, true, false, cond, List, [], ◌∷◌, ◌++◌, length, take, drop, Decides, ◌==◌, nat_eq, ◌≢◌, slice_index, slice_set, refl}
use Rattle.std.proofs.Common.{append-nil, sym, ap, ◌∙◌, add-one, arith}
use Rattle.std.proofs.lemmas.List.{take_all, drop_all, set-get_or}
use Rattle.std.proofs.lemmas.Bool.{false≢true, true≢false, eq-eqb, ne_eqb}
use Rattle.std.proofs.lemmas.Bool.Decides.{Decides-eqb, nat_tests}
use Rattle.std.proofs.lemmas.Slice.Eq.{slice_eq-Decides}
use Rattle.std.specs.Cmp.Lexicographic.{pointwise}
use Rattle.rows.specs.Rows.{contains, compatible, union, earlier, SaysBoth}
use Rattle.rows.specs.declared.row.Row.{Row}

-- containment is a partial order
pub contains_itself : (xs : List ℕ) → contains xs xs ≡ true
contains_itself [] = refl
contains_itself (x ∷ xs) = let r = contains_itself xs in grind (arith, nat_tests)

pub contains_through : (xs ys zs : List ℕ) → contains ys xs ≡ true → contains zs ys ≡ true → contains zs xs ≡ true
contains_through [] [] zs p q = q
contains_through [] (y ∷ ys) zs p q = absurd (false≢true p)
contains_through (x ∷ xs) [] zs p q = absurd (false≢true p)
contains_through (x ∷ xs) (y ∷ ys) [] p q = absurd (false≢true q)
contains_through (x ∷ xs) (y ∷ ys) (z ∷ zs) p q = let r = contains_through xs ys zs in grind (arith, nat_tests)

pub contains_same : (xs ys : List ℕ) → contains ys xs ≡ true → contains xs ys ≡ true → xs ≡ ys
contains_same [] [] p q = refl
contains_same [] (y ∷ ys) p q = absurd (false≢true p)
contains_same (x ∷ xs) [] p q = absurd (false≢true p)
contains_same (x ∷ xs) (y ∷ ys) p q = let r = contains_same xs ys in grind (arith, nat_tests)

-- the order by first difference is a strict total order
pub earlier_apart : (xs : List ℕ) → earlier xs xs ≡ false
earlier_apart [] = refl
earlier_apart (x ∷ xs) = let r = earlier_apart xs in grind (arith, nat_tests)

pub earlier_onward : (xs ys zs : List ℕ) → earlier xs ys ≡ true → earlier ys zs ≡ true → earlier xs zs ≡ true
earlier_onward [] [] zs p q = absurd (false≢true p)
earlier_onward [] (y ∷ ys) [] p q = q
earlier_onward [] (y ∷ ys) (z ∷ zs) p q = refl
earlier_onward (x ∷ xs) [] zs p q = absurd (false≢true p)
earlier_onward (x ∷ xs) (y ∷ ys) [] p q = absurd (false≢true q)
earlier_onward (x ∷ xs) (y ∷ ys) (z ∷ zs) p q = let r = earlier_onward xs ys zs in grind (arith, nat_tests)

pub earlier_total : (xs ys : List ℕ) → earlier xs ys ≡ false → earlier ys xs ≡ false → xs ≡ ys
earlier_total [] [] p q = refl
earlier_total [] (y ∷ ys) p q = absurd (true≢false p)
earlier_total (x ∷ xs) [] p q = absurd (true≢false q)
earlier_total (x ∷ xs) (y ∷ ys) p q = let r = earlier_total xs ys in grind (arith, nat_tests)

-- what contains a union contains both, and the other way round
pub union_says_both : (rs ss : List ℕ) → compatible rs ss ≡ true → SaysBoth (union rs ss) rs ss
union_says_both [] [] c [] = refl
union_says_both [] [] c (w ∷ ws) = refl
union_says_both [] (s ∷ ss) c ws = absurd (false≢true c)
union_says_both (r ∷ rs) [] c ws = absurd (false≢true c)
union_says_both (r ∷ rs) (s ∷ ss) c [] = refl
union_says_both (r ∷ rs) (s ∷ ss) c (w ∷ ws) = let k : compatible rs ss ≡ true = grind (arith, nat_tests) in let t = union_says_both rs ss k ws in grind (arith, nat_tests)

-- the first i places joined, and the rest as it was
abbrev part : ℕ → List ℕ → List ℕ → List ℕ
part i xs ys = union (take i xs) (take i ys) ++ drop i xs

part_more : (i : ℕ) (xs ys : List ℕ) → i < length xs → i < length ys
    → slice_set (part i xs ys) i (cond (slice_index (part i xs ys) i == 0) (slice_index ys i) (slice_index (part i xs ys) i)) ≡ part (suc i) xs ys
part_more i [] ys h k = absurd (omega arith)
part_more i (x ∷ xs) [] h k = absurd (omega arith)
part_more zero (x ∷ xs) (y ∷ ys) h k = refl
part_more (suc i) (x ∷ xs) (y ∷ ys) h k = ap (λ l. cond (x == 0) y x ∷ l) (part_more i xs ys (omega arith) (omega arith))

module _ (xs ys zs : List ℕ) (i : ℕ) (is : zs ≡ union (take i xs) (take i ys) ++ drop i xs) where
  union_more : i < length xs → i < length ys → slice_set zs i (cond (slice_index zs i == 0) (slice_index ys i) (slice_index zs i)) ≡ union (take (i + 1) xs) (take (i + 1) ys) ++ drop (i + 1) xs
  union_more h k = rw (is, add-one) (part_more i xs ys h k)

  pub union_more_set : i < length xs → i < length ys → slice_index zs i ≡ 0 → slice_set zs i (slice_index ys i) ≡ union (take (i + 1) xs) (take (i + 1) ys) ++ drop (i + 1) xs
  union_more_set h k e = rw (eq-eqb _ _ e) at (union_more h k)

  pub union_more_keep : i < length xs → i < length ys → (slice_index zs i ≢ 0) → zs ≡ union (take (i + 1) xs) (take (i + 1) ys) ++ drop (i + 1) xs
  union_more_keep h k n = sym (set-get_or zs i 0) ∙ (rw (ne_eqb _ _ n) at (union_more h k))

  pub union_all : length xs ≤ i → length ys ≤ i → zs ≡ union xs ys
  union_all h k = is ∙ rw (take_all i xs h, take_all i ys k, drop_all i xs h, append-nil)

-- a row is its choices
pub row_same : (r s : Row) → r.choices ≡ s.choices → r ≡ s
row_same r s e = ap (λ (cs : List ℕ). let t : Row = record { choices = cs } in t) e

-- and the test of its choices tells whether two rows are the same
pub rows_decided : (r s : Row) → Decides (pointwise nat_eq r.choices s.choices) (r ≡ s)
rows_decided r s =
    let d = slice_eq-Decides Decides-eqb r.choices s.choices (pointwise nat_eq r.choices s.choices) refl in
    (λ t. row_same r s (d.0 t), λ e. d.1 (ap (λ (q : Row). q.choices) e))
