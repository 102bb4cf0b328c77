-- The table of a model's alternatives, read and written at one place.
use Rattle.std.proofs.Common.{◌≡◌, ℕ, zero, suc, ◌-◌, ◌<◌, ◌≤◌, ◌+◌, true, ◌&&◌, ◌||◌, eqb, List, [], ◌∷◌, map, length, get_or, take, drop, set, replicate, Some, None, Option, Bor, MatchOption, ⊎_elim, sym, refl, ap, ◌∙◌, arith}
use Rattle.std.specs.List.{list_all, range_with_len, zip}
use Rattle.std.specs.Slice.{IsItemAt}
use Rattle.std.proofs.lemmas.List.{length-set, length-map, length-take-le, get_or-map, get_or-take, get_or-drop, get_or_past, map-set, set-get_or, drop-set-lt}
use Rattle.std.proofs.lemmas.Bool.{and_parts, and_from, cases_lt}
use Rattle.std.proofs.lemmas.Bool.Decides.{nat_tests}
use Rattle.model.specs.declared.alternative.Alternative.{Alternative}
use Rattle.model.specs.Alternatives.{weights_of, blank_alternative, zeros, canonical_alternative, canonical_alternatives}
use Rattle.model.specs.Holding.{sizes_of}
use Rattle.model.specs.Judging.{is_declared, all_declared}
use Rattle.model.specs.Models.{sizes}

-- what stands past the end of a table
abbrev pub nowhere : Alternative
nowhere = record { choices = 0; weights = [] }

-- a canonical alternative has as many weights as choices
pub weights_count : (a : Alternative) → canonical_alternative a ≡ true → length (weights_of a) ≡ a.choices
weights_count a h =
    let long : length a.weights ≡ 8 = grind (arith, nat_tests) in
    let fit : a.choices ≤ 8 = grind (arith, nat_tests) in
    length-take-le a.choices a.weights (omega arith)

blank_choices : (n i : ℕ) → (get_or (replicate n blank_alternative) i nowhere).choices ≡ 0
blank_choices zero i = refl
blank_choices (suc n) zero = refl
blank_choices (suc n) (suc i) = blank_choices n i

-- how many choices a look at a table finds
pub choices_found : (table : List Alternative) (i r : ℕ) (o : Option (Bor Alternative)) → IsItemAt table i o → MatchOption o (r ≡ 0) (λ a. r ≡ a.now.choices) → r ≡ (get_or table i nowhere).choices
choices_found table i r None is h = h ∙ ap (λ (a : Alternative). a.choices) (is.4 (omega arith) nowhere)
choices_found table i r (Some a) is h = h ∙ ap (λ (a : Alternative). a.choices) (is.4 (omega arith) nowhere)

pub sizes_same : (as' : List Alternative) → canonical_alternatives as' ≡ true → sizes (map weights_of as') ≡ sizes_of as'
sizes_same [] h = refl
sizes_same (a ∷ as') h =
    let both = and_parts (canonical_alternative a) (canonical_alternatives as') h in
    let first = weights_count a both.0 in
    let rest = sizes_same as' both.1 in
    cc

pub canonical_at : (as' : List Alternative) (i : ℕ) → canonical_alternatives as' ≡ true → i < length as' → canonical_alternative (get_or as' i nowhere) ≡ true
canonical_at [] i h k = absurd (omega arith)
canonical_at (a ∷ as') zero h k = (and_parts _ _ h).0
canonical_at (a ∷ as') (suc i) h k = canonical_at as' i (and_parts _ _ h).1 (omega arith)

-- the declared ones of a table
module _ (table : List Alternative) (n : ℕ) (long : length table ≡ 16) (few : n ≤ 16) (whole : canonical_alternatives (take n table) ≡ true) where
  count : length (take n table) ≡ n
  count = length-take-le n table (omega arith)

  pub sizes_count : length (sizes (map weights_of (take n table))) ≡ n
  sizes_count = ap length (sizes_same (take n table) whole) ∙ length-map (take n table) (λ (a : Alternative). a.choices) ∙ count

  pub sizes_at : (i : ℕ) → i < n → get_or (sizes (map weights_of (take n table))) i 0 ≡ (get_or table i nowhere).choices
  sizes_at i h =
      ap (λ s. get_or s i 0) (sizes_same (take n table) whole) ∙ get_or-map (λ (a : Alternative). a.choices) (take n table) i nowhere 0 (omega (arith, count))
      ∙ ap (λ (a : Alternative). a.choices) (get_or-take n table i nowhere h)

  pub whole_at : (i : ℕ) → i < n → canonical_alternative (get_or table i nowhere) ≡ true
  whole_at i h = ap canonical_alternative (sym (get_or-take n table i nowhere h)) ∙ canonical_at (take n table) i whole (omega (arith, count))

  -- past those there are no choices
  none_past : drop n table ≡ replicate (16 - n) blank_alternative → (i : ℕ) → n ≤ i → (get_or table i nowhere).choices ≡ 0
  none_past unused i h =
      let here = ap (λ k. get_or table k nowhere) (omega arith) ∙ sym (get_or-drop n table (i - n) nowhere) ∙ ap (λ as'. get_or as' (i - n) nowhere) unused in
      ap (λ (a : Alternative). a.choices) here ∙ blank_choices (16 - n) (i - n)

  pub choices_at : drop n table ≡ replicate (16 - n) blank_alternative → (i : ℕ) → (get_or table i nowhere).choices ≡ get_or (sizes (map weights_of (take n table))) i 0
  choices_at unused i =
      ⊎_elim
      (λ h. sym (sizes_at i h))
      (λ h. none_past unused i h ∙ sym (get_or_past _ i 0 (omega (arith, sizes_count))))
      (cases_lt i n)

  pub few_at : drop n table ≡ replicate (16 - n) blank_alternative → (i : ℕ) → (get_or table i nowhere).choices ≤ 8
  few_at unused i = ⊎_elim (λ h. let whole = whole_at i h in grind (arith, nat_tests)) (λ h. omega (arith, none_past unused i h)) (cases_lt i n)

  -- where a choice is declared
  pub declared_place : (a c : ℕ) → is_declared (sizes (map weights_of (take n table))) a c ≡ true → (1 ≤ a) × (a - 1 < n) × (1 ≤ c) × (c - 1 < (get_or table (a - 1) nowhere).choices)
  declared_place a c h =
      let all = sizes_count in
      let low : 1 ≤ a = grind (arith, nat_tests) in
      let in' : a - 1 < n = grind (arith, nat_tests) in
      let at = sizes_at (a - 1) in' in
      (low, in', grind (arith, nat_tests), grind (arith, nat_tests))

take_of_set : {V : Type 0} (n i : ℕ) (xs : List V) (v : V) → take n (set xs i v) ≡ set (take n xs) i v
take_of_set zero i xs v = refl
take_of_set (suc n) i [] v = refl
take_of_set (suc n) zero (x ∷ xs) v = refl
take_of_set (suc n) (suc i) (x ∷ xs) v = ap (λ l. x ∷ l) (take_of_set n i xs v)

canonical_set : (as' : List Alternative) (i : ℕ) (a : Alternative) → canonical_alternatives as' ≡ true → canonical_alternative a ≡ true → canonical_alternatives (set as' i a) ≡ true
canonical_set [] i a h k = refl
canonical_set (b ∷ as') zero a h k = and_from _ _ k (and_parts _ _ h).1
canonical_set (b ∷ as') (suc i) a h k = and_from _ _ (and_parts _ _ h).0 (canonical_set as' i a (and_parts _ _ h).1 k)

-- whether each of some choices is declared at its alternative, or 0
pub each_declared : (ns : List ℕ) (a : ℕ) (choices : List ℕ) → list_all (λ p. eqb p.0 0 || is_declared ns p.1 p.0) (zip choices (range_with_len a (length choices))) ≡ all_declared ns a choices
each_declared ns a [] = refl
each_declared ns a (c ∷ choices) = ap (λ b. (eqb c 0 || is_declared ns a c) && b) (each_declared ns (a + 1) choices)

-- an alternative with another weight at one of its choices
module _ (a : Alternative) (k w : ℕ) (whole : canonical_alternative a ≡ true) (inside : k < a.choices) where
  abbrev pub reweighed : Alternative
  reweighed = record { choices = a.choices; weights = set a.weights k w }

  pub reweighed_canonical : canonical_alternative reweighed ≡ true
  reweighed_canonical =
      let long = length-set a.weights k w in
      let past = ap zeros (drop-set-lt a.choices a.weights k w inside) in
      grind (arith, nat_tests)

  pub reweighed_weights : weights_of reweighed ≡ set (weights_of a) k w
  reweighed_weights = take_of_set a.choices k a.weights w

-- the table with another alternative at a declared place
module _ (table : List Alternative) (n i : ℕ) (b : Alternative) (long : length table ≡ 16) (few : n ≤ 16) (inside : i < n) where
  pub canonical_with : canonical_alternatives (take n table) ≡ true → canonical_alternative b ≡ true → canonical_alternatives (take n (set table i b)) ≡ true
  canonical_with h k = ap canonical_alternatives (take_of_set n i table b) ∙ canonical_set (take n table) i b h k

  pub sizes_with : b.choices ≡ (get_or table i nowhere).choices → sizes_of (take n (set table i b)) ≡ sizes_of (take n table)
  sizes_with same =
      let choices = λ (a : Alternative). a.choices in
      let here : b.choices ≡ get_or (sizes_of (take n table)) i 0 = same ∙ ap choices (sym (get_or-take n table i nowhere inside)) ∙ sym (get_or-map choices (take n table) i nowhere 0 (omega (arith, length-take-le n table (omega arith)))) in
      ap sizes_of (take_of_set n i table b) ∙ map-set choices (take n table) i b ∙ ap (set (sizes_of (take n table)) i) here ∙ set-get_or (sizes_of (take n table)) i 0

  pub weights_with : map weights_of (take n (set table i b)) ≡ set (map weights_of (take n table)) i (weights_of b)
  weights_with = ap (map weights_of) (take_of_set n i table b) ∙ map-set weights_of (take n table) i b

  pub weights_there : get_or (map weights_of (take n table)) i [] ≡ weights_of (get_or table i nowhere)
  weights_there = get_or-map weights_of (take n table) i nowhere [] (omega (arith, length-take-le n table (omega arith))) ∙ ap weights_of (get_or-take n table i nowhere inside)
