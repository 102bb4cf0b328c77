-- The ways of `put`, the places that it leaves, and the turns of a run.
use Rattle.std.proofs.Common.{◌≡◌, ℕ, zero, suc, ◌+◌, ◌-◌, ◌<◌, ◌≤◌, min, max, Bool, true, false, List, [], ◌∷◌, ◌++◌, length, get_or, take, drop, IfOk, Some, None, Ok, Err, Option, Result, sym, refl, ap, ◌∙◌, ⊎_elim, arith}
use Rattle.std.specs.List.{insert}
use Rattle.std.proofs.lemmas.List.Edits.{length-insert}
use Rattle.std.proofs.lemmas.List.{take_all, take_at, drop_all, drop_at, drop-drop, length-take, length-take-le, at_drop_more}
use Rattle.std.proofs.lemmas.Bool.{cond-true, cond-false, cond_both, le-leb, lt-leb, cases_lt}
use Rattle.rows.specs.Keeping.{covered, spared, placed, kept, and_then, kept_all, shown}
use Rattle.rows.proofs.Spares.{spared_most, spared_fewer}

pub length_placed : {V : Type 0} (before : V → V → Bool) (x : V) (ys : List V) → length (placed before x ys) ≡ length ys + 1
length_placed before x [] = refl
length_placed before x (y ∷ ys) =
    cond_both (before x y) (x ∷ y ∷ ys) (y ∷ placed before x ys) (λ l. length l ≡ length (y ∷ ys) + 1) (λ _. omega arith) (λ _. omega (arith, length_placed before x ys))

-- as many as a list begins with
pub take_counted : {V : Type 0} (n : ℕ) (xs : List V) → take (length (take n xs)) xs ≡ take n xs
take_counted zero xs = refl
take_counted (suc n) [] = refl
take_counted (suc n) (x ∷ xs) = ap (λ l. x ∷ l) (take_counted n xs)

-- lists that are alike from a place on are alike from any later one
pub drop_later : {V : Type 0} (m n : ℕ) (xs ys : List V) → m ≤ n → drop m xs ≡ drop m ys → drop n xs ≡ drop n ys
drop_later m n xs ys h e =
    let k : m + (n - m) ≡ n = omega arith in
    (rw k at (sym (drop-drop (n - m) m xs))) ∙ ap (drop (n - m)) e ∙ (rw k at (drop-drop (n - m) m ys))

-- one more than the first `left`
length_front : {V : Type 0} (x : V) (moved : List V) (left at : ℕ) → left < length moved → at ≤ left → length (insert (take left moved) at x) ≡ left + 1
length_front x moved left at h k =
    let n = length-take-le left moved (omega arith) in
    omega (arith, length-insert (take left moved) at x (omega arith))

-- where a place is free, or one goes out, one more fits
pub put_fits : {V : Type 0} (below : V → V → Bool) (x : V) (items : List V) (n first : ℕ) → first ≤ length (take n items) → (first ≡ length items → ⊥)
    → (first < length (take n items) → below x (get_or (take n items) first x) ≡ true) → length (spared below x (take n items)) < length items
put_fits below x items n first inside free above =
    let count = length-take n items in
    ⊎_elim
    (λ h. omega (arith, spared_fewer below x (take n items) first x h (above h)))
    (λ h. omega (arith, spared_most below x (take n items), free))
    (cases_lt first (length (take n items)))

-- the ways of `put`, where n is the number of those held
module _ {V : Type 0} (items : List V) (held n : ℕ) (clamped : n ≡ min held (length items)) where
  pub held_clamped : take n items ≡ take held items
  held_clamped = ap (λ m. take m items) (clamped ∙ sym (length-take held items)) ∙ take_counted held items

  module _ (below before : V → V → Bool) (x : V) where
    pub put_same : covered below (take n items) x ≡ true → Some (take n items) ≡ kept below before (length items) (take held items) x
    put_same e = rw held_clamped (sym (cond-true _ _ _ (rw held_clamped at e)))

    pub put_full : covered below (take n items) x ≡ false → (first : ℕ) → first ≤ length (take n items) → first ≡ length items
        → spared below x (take first (take n items)) ≡ take first (take n items) → None ≡ kept below before (length items) (take held items) x
    put_full new first inside full stay =
        let count = length-take n items in
        let whole : take first (take n items) ≡ take n items = take_all first (take n items) (omega arith) in
        let all : length (spared below x (take n items)) ≡ length (take n items) = ap length (rw whole at stay) in
        let one = length_placed before x (spared below x (take n items)) in
        rw (← held_clamped) (sym (cond-false _ _ _ new ∙ cond-false _ _ _ (lt-leb (length (placed before x (spared below x (take n items)))) (length items) (omega arith))))

    module _ (moved after : List V) (left at : ℕ) (room : left < length moved) (inside : at ≤ left)
        (is : after ≡ insert (take left moved) at x ++ drop (left + 1) moved) where
      pub put_one : covered below (take n items) x ≡ false → length (spared below x (take n items)) < length items
          → take left moved ≡ spared below x (take n items) → placed before x (take left moved) ≡ insert (take left moved) at x
          → Some (take (left + 1) after) ≡ kept below before (length items) (take held items) x
      put_one new fits front there =
          let one = length_placed before x (spared below x (take n items)) in
          let all : take (left + 1) after ≡ placed before x (spared below x (take n items)) =
          ap (take (left + 1)) is ∙ take_at _ _ (left + 1) (length_front x moved left at room inside) ∙ sym there ∙ ap (placed before x) front in
          ap Some all ∙ rw (← held_clamped) (sym (cond-false _ _ _ new ∙ cond-true _ _ _ (le-leb (length (placed before x (spared below x (take n items)))) (length items) (omega arith))))

  pub put_past : (x : V) (moved after : List V) (left at : ℕ) → left < length moved → at ≤ left → after ≡ insert (take left moved) at x ++ drop (left + 1) moved
      → drop n moved ≡ drop n items → drop (max held (left + 1)) after ≡ drop (max held (left + 1)) items
  put_past x moved after left at room inside is past =
      let long : length (insert (take left moved) at x) ≡ left + 1 = length_front x moved left at room inside in
      drop_later (left + 1) (max held (left + 1)) after moved (omega arith) (ap (drop (left + 1)) is ∙ drop_at _ _ (left + 1) long)
      ∙ drop_later n (max held (left + 1)) moved items (omega arith) past

-- the places that neither list takes, where a count past the end counts as the length
pub past_both : {V : Type 0} (held n : ℕ) (xs ys : List V) → length ys ≡ length xs → drop (max held n) ys ≡ drop (max held n) xs
    → drop (max (length (take held xs)) (length (take n ys))) ys ≡ drop (max (length (take held xs)) (length (take n ys))) xs
past_both held n xs ys same past =
    let old = length-take held xs in
    let new = length-take n ys in
    ⊎_elim
    (λ h. let k : max (length (take held xs)) (length (take n ys)) ≡ max held n = omega arith in rw k past)
    (λ h. drop_all _ ys (omega arith) ∙ sym (drop_all _ xs (omega arith)))
    (cases_lt (max held n) (length xs))

-- a turn of a run over xs
module _ {V : Type 0} (below before : V → V → Bool) (limit room : ℕ) (same : room ≡ limit) (ys xs : List V) (i : ℕ) (x : V) (h : i < length xs) (is : x ≡ get_or xs i x) where
  run_next : kept_all below before limit ys (drop i xs) ≡ and_then (kept below before room ys x) (λ zs. kept_all below before limit zs (drop (i + 1) xs))
  run_next =
      at_drop_more (kept_all below before limit ys) xs i x h
      ∙ ap (λ y. and_then (kept below before limit ys y) (λ zs. kept_all below before limit zs (drop (i + 1) xs))) (sym is)
      ∙ ap (λ n. and_then (kept below before n ys x) (λ zs. kept_all below before limit zs (drop (i + 1) xs))) (sym same)

  pub run_more : (zs : List V) → Some zs ≡ kept below before room ys x → kept_all below before limit zs (drop (i + 1) xs) ≡ kept_all below before limit ys (drop i xs)
  run_more zs e = ap (λ o. and_then o (λ zs. kept_all below before limit zs (drop (i + 1) xs))) e ∙ sym run_next

  pub run_stops : None ≡ kept below before room ys x → None ≡ kept_all below before limit ys (drop i xs)
  run_stops e = ap (λ o. and_then o (λ zs. kept_all below before limit zs (drop (i + 1) xs))) e ∙ sym run_next

-- the places that no turn so far has taken, from a to at most a + 1 held
pub past_more : {V : Type 0} (a b i : ℕ) (xs ys zs : List V) → a ≤ i → b ≤ a + 1 → drop (max a b) zs ≡ drop (max a b) ys → drop i ys ≡ drop i xs → drop (i + 1) zs ≡ drop (i + 1) xs
past_more a b i xs ys zs h k e f = drop_later (max a b) (i + 1) zs ys (omega arith) e ∙ drop_later i (i + 1) ys xs (omega arith) f

-- what holds of all that a run can keep holds of what an answer shows
pub shown_cases : {V E : Type 0} (P : List V → Type 0) (r : Result ℕ E) (items : List V) (o : Option (List V)) → shown r items ≡ o → ((ys : List V) → o ≡ Some ys → P ys) → IfOk r (λ n. P (take n items))
shown_cases P (Ok n) items o h each = each (take n items) (sym h)
shown_cases P (Err e) items o h each = tt
