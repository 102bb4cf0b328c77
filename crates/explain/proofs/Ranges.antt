-- The numbers that a range has left, and what a step takes of them.
use Rattle.std.proofs.Common.{◌≡◌, ℕ, zero, suc, ◌+◌, ◌-◌, Bool, true, false, ◌≤◌, ◌⊎◌, inl, inr, ⊎_elim, [], ◌∷◌, ◌++◌, length, Some, None, Option, sym, refl, ap, ◌∙◌, arith}
use Rattle.std.proofs.lemmas.Bool.{cases_eq}
use Rattle.std.specs.List.{range_with_len}
use Rattle.std.proofs.lemmas.List.FromFn.{length-range_with_len}
use Rattle.std.specs.Range.{range_inclusive_start, range_inclusive_end, range_inclusive_exhausted, range_inclusive_len, range_inclusive_left, range_inclusive_steps}
use Rattle.std.specs.declared.ops.RangeInclusive.{RangeInclusive}
use Rattle.model.specs.Meaning.{up_to}
use Rattle.explain.specs.Options.{numbers_in}

counting_push : (a n : ℕ) → range_with_len a (suc n) ≡ range_with_len a n ++ ((a + n) ∷ [])
counting_push a zero = let e : a ≡ a + 0 = omega arith in ap (λ k. k ∷ []) e
counting_push a (suc n) = let e : a + 1 + n ≡ a + suc n = omega arith in ap (λ l. a ∷ l) (counting_push (a + 1) n ∙ ap (λ k. range_with_len (a + 1) n ++ (k ∷ [])) e)

-- the numbers 1 to n, counted from the front
pub up_to_counting : (n : ℕ) → up_to n ≡ range_with_len 1 n
up_to_counting zero = refl
up_to_counting (suc n) = let e : suc n ≡ 1 + n = omega arith in ap (λ l. l ++ (suc n ∷ [])) (up_to_counting n) ∙ ap (λ k. range_with_len 1 n ++ (k ∷ [])) e ∙ sym (counting_push 1 n)

abbrev gap : ℕ → ℕ → ℕ
gap x y = y - x

abbrev pub steps : RangeInclusive ℕ → Option ℕ → RangeInclusive ℕ → Type 0
steps = range_inclusive_steps gap (λ x y. y ≡ x + 1)

-- a range that no step was taken of
pub numbers_fresh : (r : RangeInclusive ℕ) (first last n : ℕ) → range_inclusive_start r ≡ first → range_inclusive_end r ≡ last → range_inclusive_exhausted r ≡ false → last + 1 - first ≡ n → numbers_in r ≡ range_with_len first n
numbers_fresh r first last n s e f is =
    let left : range_inclusive_left gap r ≡ n = omega (arith, is, s, e, ap (range_inclusive_len gap (range_inclusive_start r) (range_inclusive_end r)) f) in
    ap (λ k. range_with_len k (range_inclusive_left gap r)) s ∙ ap (range_with_len first) left

-- how many they are
pub few_fresh : (r : RangeInclusive ℕ) {first last : ℕ} → range_inclusive_start r ≡ first → range_inclusive_end r ≡ last → range_inclusive_exhausted r ≡ false → length (numbers_in r) ≡ last + 1 - first
few_fresh r {first} {last} s e f = ap length (numbers_fresh r first last (last + 1 - first) s e f refl) ∙ length-range_with_len first (last + 1 - first)

-- the first of them comes, and then the others are left
pub numbers_next : (r next : RangeInclusive ℕ) (x : ℕ) → steps r (Some x) next → numbers_in r ≡ x ∷ numbers_in next
numbers_next r next x h =
    let (_, (is, fewer, follows)) = h in
    let left : range_inclusive_left gap r ≡ suc (range_inclusive_left gap next) = omega (arith, fewer) in
    ap (range_with_len (range_inclusive_start r)) left ∙ ap (λ k. k ∷ range_with_len (range_inclusive_start r + 1) (range_inclusive_left gap next)) (sym is)
    ∙ ap (λ l. x ∷ l) (rest (range_inclusive_exhausted next) refl)
  where
    rest : (b : Bool) → range_inclusive_exhausted next ≡ b → range_with_len (range_inclusive_start r + 1) (range_inclusive_left gap next) ≡ numbers_in next
    rest true e =
        let none = ap (range_inclusive_len gap (range_inclusive_start next) (range_inclusive_end next)) e in
        ap (range_with_len (range_inclusive_start r + 1)) none ∙ sym (ap (range_with_len (range_inclusive_start next)) none)
    rest false e = ap (λ k. range_with_len k (range_inclusive_left gap next)) (sym (h.1.2 e))

-- none is left where none comes
pub numbers_end : (r next : RangeInclusive ℕ) → steps r None next → numbers_in r ≡ []
numbers_end r next h = ap (range_with_len (range_inclusive_start r)) h.1.0

-- a range whose end is not past its start has one number, or none
pub numbers_single : (r : RangeInclusive ℕ) {first last : ℕ} → range_inclusive_start r ≡ first → range_inclusive_end r ≡ last → range_inclusive_exhausted r ≡ false → last ≤ first → (numbers_in r ≡ [] → range_inclusive_end r ≡ 0)
    → (numbers_in r ≡ last ∷ []) ⊎ ((numbers_in r ≡ []) × (last ≡ 0))
numbers_single r {first} {last} s e f low none = ⊎_elim
    (λ (same : first ≡ last). inl (numbers_fresh r first last 1 s e f (omega arith) ∙ ap (λ k. k ∷ []) same))
    (λ other. let empty = numbers_fresh r first last 0 s e f (omega arith) in inr (empty, sym e ∙ none empty))
    (cases_eq first last)
