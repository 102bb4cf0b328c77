-- One alternative more in the table of a model.
use Rattle.std.proofs.Common.{◌≡◌, ℕ, zero, suc, ◌+◌, ◌-◌, ◌<◌, ◌≤◌, true, List, [], ◌∷◌, ◌++◌, map, length, take, drop, set, replicate, Ok, sym, refl, ap, ◌∙◌, arith}
use Rattle.std.proofs.lemmas.List.{take_at, drop_at, take_more_set, drop-set-lt, drop-drop, drop-replicate, map_push, length-append, length-replicate, length-map, length-take-le}
use Rattle.std.proofs.lemmas.Bool.{and_parts, and_from, cond-true, le-leb, lt-ltb, eq-eqb}
use Rattle.model.specs.declared.alternative.Alternative.{Alternative}
use Rattle.model.specs.Alternatives.{weights_of, alternative_of, blank_alternative, zeros, canonical_alternative, canonical_alternatives}
use Rattle.model.specs.Holding.{sizes_of}
use Rattle.model.specs.Models.{declaring}

zeros_all : (n : ℕ) → zeros (replicate n 0) ≡ true
zeros_all zero = refl
zeros_all (suc n) = zeros_all n

-- the alternative of up to eight weights
module _ (weights : List ℕ) (fit : length weights ≤ 8) where
  pub weights_back : weights_of (alternative_of weights) ≡ weights
  weights_back = take_at weights (replicate (8 - length weights) 0) (length weights) refl

  pub alternative_canonical : 2 ≤ length weights → canonical_alternative (alternative_of weights) ≡ true
  alternative_canonical some =
      let long : length (weights ++ replicate (8 - length weights) 0) ≡ 8 = length-append weights (replicate (8 - length weights) 0) ∙ rw length-replicate (omega arith) in
      let past : zeros (drop (length weights) (weights ++ replicate (8 - length weights) 0)) ≡ true = ap zeros (drop_at weights (replicate (8 - length weights) 0) (length weights) refl) ∙ zeros_all (8 - length weights) in
      and_from _ _ (eq-eqb _ 8 long) (and_from _ _ (le-leb 2 _ some) (and_from _ _ (le-leb _ 8 fit) past))

canonical_push : (as' : List Alternative) (a : Alternative) → canonical_alternatives as' ≡ true → canonical_alternative a ≡ true → canonical_alternatives (as' ++ (a ∷ [])) ≡ true
canonical_push [] a h k = and_from _ _ k refl
canonical_push (b ∷ as') a h k = let both = and_parts _ _ h in and_from _ _ both.0 (canonical_push as' a both.1 k)

-- the table of n alternatives, with one more in its next place
module _ (table : List Alternative) (n : ℕ) (a : Alternative) (long : length table ≡ 16) (room : n < 16) where
  pub table_more : take (n + 1) (set table n a) ≡ take n table ++ (a ∷ [])
  table_more = take_more_set table n a (omega arith)

  pub canonical_more : canonical_alternatives (take n table) ≡ true → canonical_alternative a ≡ true → canonical_alternatives (take (n + 1) (set table n a)) ≡ true
  canonical_more h k = ap canonical_alternatives table_more ∙ canonical_push (take n table) a h k

  pub unused_more : drop n table ≡ replicate (16 - n) blank_alternative → drop (n + 1) (set table n a) ≡ replicate (16 - (n + 1)) blank_alternative
  unused_more h =
      drop-set-lt (n + 1) table n a (omega arith) ∙ sym (drop-drop 1 n table) ∙ ap (drop 1) h ∙ drop-replicate 1 (16 - n) blank_alternative ∙ ap (λ k. replicate k blank_alternative) (omega arith)

  pub sizes_more : sizes_of (take (n + 1) (set table n a)) ≡ sizes_of (take n table) ++ (a.choices ∷ [])
  sizes_more = ap sizes_of table_more ∙ map_push (λ (b : Alternative). b.choices) (take n table) a

  pub alternatives_more : map weights_of (take (n + 1) (set table n a)) ≡ map weights_of (take n table) ++ (weights_of a ∷ [])
  alternatives_more = ap (map weights_of) table_more ∙ map_push weights_of (take n table) a

-- the answer
module _ (as' : List (List ℕ)) (weights : List ℕ) (some : 2 ≤ length weights) (fit : length weights ≤ 8) where
  pub declaring_more : length as' < 16 → Ok (as' ++ (weights ∷ [])) ≡ declaring as' weights
  declaring_more room = sym (cond-true _ _ _ (and_from _ _ (le-leb 2 _ some) (le-leb _ 8 fit)) ∙ cond-true _ _ _ (lt-ltb (length as') 16 room))

pub alternatives_count : (table : List Alternative) (n : ℕ) → n ≤ length table → length (map weights_of (take n table)) ≡ n
alternatives_count table n h = length-map (take n table) weights_of ∙ length-take-le n table h
