-- What a world may take at each place, for any sizes and any suppositions.
use Rattle.std.proofs.Common.{◌≡◌, ℕ, zero, suc, ◌<◌, ◌≤◌, true, eqb, ltb, List, [], ◌∷◌, ◌++◌, length, get_or, sym, refl, ap, ◌∙◌, subst, inl, inr, ⊎_elim, arith}
use Rattle.std.specs.List.{AllByRecursion}
use Rattle.std.proofs.ByRecursion.{All-push, All-get_or}
use Rattle.std.proofs.lemmas.List.{length-append, get_or_append_left, get_or_push, get_or_past}
use Rattle.std.proofs.lemmas.Bool.{cases_lt, cases_eq, cond_both, eqb-false, lt-ltb}
use Rattle.rows.specs.Minimal.{Among, Ascending}
use Rattle.rows.proofs.Members.{all_from_among, among_left, among_last, among_push}
use Rattle.logic.specs.Options.{SoundOptions}
use Rattle.model.specs.Meaning.{up_to, options_at, options_below}

-- the numbers 1 to n
pub up_to_among : (n k : ℕ) → 1 ≤ k → k ≤ n → Among (up_to n) k
up_to_among zero k low high = absurd (omega arith)
up_to_among (suc n) k low high = ⊎_elim
    (λ is. subst (Among (up_to (suc n))) (sym is) (among_last (up_to n) (suc n)))
    (λ other. among_left (up_to n) (suc n ∷ []) k (up_to_among n k low (omega arith)))
    (cases_eq k (suc n))

pub among_up_to : (n k : ℕ) → Among (up_to n) k → (1 ≤ k) × (k ≤ n)
among_up_to zero k i = absurd i
among_up_to (suc n) k i = ⊎_elim
    (λ h. let (low, high) = among_up_to n k h in (low, omega arith))
    (λ is. (omega arith, omega arith))
    (among_push (up_to n) (suc n) k i)

ascends_push : (xs : List ℕ) (x : ℕ) → Ascending ltb xs → ((e : ℕ) → Among xs e → ltb e x ≡ true) → Ascending ltb (xs ++ (x ∷ []))
ascends_push [] x a h = (λ e i. absurd i, tt)
ascends_push (y ∷ xs) x a h = (
  λ e i. ⊎_elim (a.0 e) (λ is. subst (λ z. ltb y z ≡ true) is (h y (inl refl))) (among_push xs x e i),
  ascends_push xs x a.1 (λ e i. h e (inr i)),
)

pub up_to_ascends : (n : ℕ) → Ascending ltb (up_to n)
up_to_ascends zero = tt
up_to_ascends (suc n) = ascends_push (up_to n) (suc n) (up_to_ascends n) (λ e i. let (low, high) = among_up_to n e i in lt-ltb e (suc n) (omega arith))

module _ (ns supposed : List ℕ) where
  -- one list of options for each place
  pub length_options : (n : ℕ) → length (options_below ns supposed n) ≡ n
  length_options zero = refl
  length_options (suc n) = omega (arith, length-append (options_below ns supposed n) (options_at ns supposed n ∷ []), length_options n)

  pub options_there : (n place : ℕ) → place < n → get_or (options_below ns supposed n) place [] ≡ options_at ns supposed place
  options_there zero place h = absurd (omega arith)
  options_there (suc n) place h =
      let long = length_options n in
      ⊎_elim
      (λ is. ap (λ k. get_or (options_below ns supposed (suc n)) k []) is ∙ get_or_push (options_below ns supposed n) (options_at ns supposed n) [] n long ∙ ap (options_at ns supposed) (sym is))
      (λ other. let l : place < length (options_below ns supposed n) = omega arith in get_or_append_left (options_below ns supposed n) (options_at ns supposed n ∷ []) [] place l ∙ options_there n place (omega arith))
      (cases_eq place n)

  -- past the last of them there is nothing to take
  pub options_past : (n place : ℕ) → n ≤ place → get_or (options_below ns supposed n) place [] ≡ []
  options_past n place h = get_or_past (options_below ns supposed n) place [] (omega (arith, length_options n))

  -- what holds of the numbers 1 to any n, and of one number above 0, holds of the options of every place
  module _ (P : List ℕ → Type 0) (free : (n : ℕ) → P (up_to n)) (fixed : (n : ℕ) → 0 < n → P (n ∷ [])) where
    each_place : (place : ℕ) → P (options_at ns supposed place)
    each_place place =
        let choice : ℕ = get_or supposed place 0 in
        cond_both (eqb choice 0) (up_to (get_or ns place 0)) (choice ∷ []) P
        (λ none. free (get_or ns place 0))
        (λ some. let other = eqb-false choice 0 some in fixed choice (omega arith))

    all_places : (n : ℕ) → AllByRecursion P (options_below ns supposed n)
    all_places zero = tt
    all_places (suc n) = All-push P (options_below ns supposed n) (options_at ns supposed n) (all_places n) (each_place n)

  pub sound_options : (n : ℕ) → SoundOptions (options_below ns supposed n)
  sound_options = all_places (λ o. AllByRecursion (λ k. 0 < k) o)
      (λ n. all_from_among (λ k. 0 < k) (up_to n) (λ k i. let (low, high) = among_up_to n k i in low))
      (λ n h. (h, tt))

  pub ascending_options : (n : ℕ) → AllByRecursion (λ o. Ascending ltb o) (options_below ns supposed n)
  ascending_options = all_places (λ o. Ascending ltb o) up_to_ascends (λ n h. (λ e i. absurd i, tt))

  pub ascending_there : (n place : ℕ) → Ascending ltb (get_or (options_below ns supposed n) place [])
  ascending_there n place = ⊎_elim
      (λ l. All-get_or (λ o. Ascending ltb o) (options_below ns supposed n) place [] (omega (arith, length_options n)) (ascending_options n))
      (λ l. subst (Ascending ltb) (sym (options_past n place l)) tt)
      (cases_lt place n)

  -- where a place has several options, they are all the choices that are declared there
  pub several_there : (n place choice : ℕ) → 1 ≤ choice → choice ≤ get_or ns place 0 → 2 ≤ length (get_or (options_below ns supposed n) place []) → Among (get_or (options_below ns supposed n) place []) choice
  several_there n place choice low high =
      let Has-choice : List ℕ → Type 0 = λ o. 2 ≤ length o → Among o choice in
      ⊎_elim
      (λ l. subst Has-choice (sym (options_there n place l)) (
      cond_both (eqb (get_or supposed place 0) 0) (up_to (get_or ns place 0)) (get_or supposed place 0 ∷ []) Has-choice
      (λ none two. up_to_among (get_or ns place 0) choice low high)
      (λ some two. absurd (omega arith))))
      (λ l. subst Has-choice (sym (options_past n place l)) (λ two. absurd (omega arith)))
      (cases_lt place n)
