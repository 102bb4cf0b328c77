-- The parts of a model's card, and how many bytes they have.
use Rattle.std.proofs.Common.{◌≡◌, ℕ, ◌+◌, ◌*◌, ◌/◌, ◌≤◌, true, List, [], ◌∷◌, ◌++◌, map, length, take, codes, sym, refl, ap, ◌∙◌, subst, arith}
use Rattle.std.specs.List.{flat_map, All, AllByRecursion}
use Rattle.std.proofs.ByRecursion.{All-weaker}
use Rattle.std.proofs.lemmas.List.{length-append, length-take-le}
use Rattle.std.proofs.lemmas.List.Concat.{flat_map-append}
use Rattle.std.proofs.lemmas.List.Elements.{All-from_recursion}
use Rattle.std.proofs.lemmas.List.Folds.{flat_map-map}
use Rattle.std.proofs.lemmas.Bool.{and_parts}
use Rattle.std.proofs.lemmas.Bool.Decides.{nat_tests}
use Rattle.model.specs.declared.alternative.Alternative.{Alternative}
use Rattle.model.specs.declared.literal.Literal.{Literal}
use Rattle.model.specs.declared.model.Model.{Model}
use Rattle.model.specs.declared.rule.Rule.{Rule}
use Rattle.model.specs.Alternatives.{weights_of, canonical_alternative, canonical_alternatives}
use Rattle.model.specs.Holding.{sizes_of}
use Rattle.model.specs.Models.{alternatives, rules}
use Rattle.model.specs.Rules.{literals, canonical}
use Rattle.model.proofs.Declares.{alternatives_count}
use Rattle.model.specs.Laws.{canonical_is}
use Rattle.model.proofs.States.{sound_valid}
use Rattle.model.proofs.Tables.{weights_count}
use Rattle.card.specs.Encoding.{rule, end, encoding}
use Rattle.card.specs.Storing.{weight_bytes, literal_bytes, alternative_entry, rule_entry, alternative_bytes, rule_bytes, stored}

pub weights_size : (ws : List ℕ) → length (flat_map weight_bytes ws) ≡ 4 * length ws
weights_size [] = refl
weights_size (w ∷ ws) = let rest = weights_size ws in omega arith

pub literals_size : (ls : List Literal) → length (flat_map literal_bytes ls) ≡ 3 * length ls
literals_size [] = refl
literals_size (l ∷ ls) = let rest = literals_size ls in omega arith

all_unmap : {X Y : Type 0} (P : Y → Type 0) (g : X → Y) (xs : List X) → AllByRecursion P (map g xs) → AllByRecursion (λ x. P (g x)) xs
all_unmap P g [] h = tt
all_unmap P g (x ∷ xs) h = (h.0, all_unmap P g xs h.1)

-- a record has three parts: its tag, its numbers, and its weights or literals
pub alternative_parts : (a : Alternative) (ws : List ℕ) → ws ≡ weights_of a → codes "AL" ++ ((length ws ∷ []) ++ flat_map weight_bytes ws) ≡ alternative_bytes a
alternative_parts a ws is =
    let size = weights_size ws in
    let count : length ws ≡ length (flat_map weight_bytes ws) / 4 = omega arith in
    ap (λ n. codes "AL" ++ (n ∷ flat_map weight_bytes ws)) count ∙ ap (λ vs. encoding (alternative_entry vs)) is

pub rule_parts : (r : Rule) (head : ℕ) (ls : List Literal) → head ≡ r.head → ls ≡ literals r → codes "RU" ++ ((head ∷ length ls ∷ []) ++ flat_map literal_bytes ls) ≡ rule_bytes r
rule_parts r head ls first is =
    let size = literals_size ls in
    let count : length ls ≡ length (flat_map literal_bytes ls) / 3 = omega arith in
    ap (λ n. codes "RU" ++ (head ∷ n ∷ flat_map literal_bytes ls)) count ∙ (λ i. encoding (rule (first i) (flat_map literal_bytes (is i))))

-- an alternative has 2 to 8 choices, and a rule at most 8 literals
abbrev pub Choices : List ℕ → Type 0
Choices ws = (2 ≤ length ws) × (length ws ≤ 8)

abbrev pub Short : Rule → Type 0
Short r = length (literals r) ≤ 8

canonical_choices : (as' : List Alternative) → canonical_alternatives as' ≡ true → AllByRecursion Choices (map weights_of as')
canonical_choices [] h = tt
canonical_choices (a ∷ as') h =
    let both = and_parts (canonical_alternative a) (canonical_alternatives as') h in
    let whole = both.0 in
    let count = weights_count a whole in
    let low : 2 ≤ a.choices = grind (arith, nat_tests) in
    let high : a.choices ≤ 8 = grind (arith, nat_tests) in
    ((omega arith, omega arith), canonical_choices as' both.1)

pub model_choices : (m : Model) → AllByRecursion Choices (alternatives m)
model_choices m = canonical_choices (take m.declared m.alternatives) m.canonical

pub model_canonical : (m : Model) → AllByRecursion (λ r. canonical r ≡ true) (rules m)
model_canonical m = sound_valid (sizes_of (take m.declared m.alternatives)) (rules m) m.sound

pub model_short : (m : Model) → AllByRecursion Short (rules m)
model_short m = All-weaker (λ r. canonical r ≡ true) Short (λ r h. let c = canonical_is r h in omega (arith, c.few, c.counted)) (rules m) (model_canonical m)

alternatives_bound : (as' : List (List ℕ)) → AllByRecursion Choices as' → length (flat_map encoding (map alternative_entry as')) ≤ 35 * length as'
alternatives_bound [] h = omega arith
alternatives_bound (ws ∷ as') h =
    let rest = alternatives_bound as' h.1 in
    let size = weights_size ws in
    let both = length-append (encoding (alternative_entry ws)) (flat_map encoding (map alternative_entry as')) in
    omega (arith, h.0.1)

rules_bound : (rs : List Rule) → AllByRecursion Short rs → length (flat_map encoding (map rule_entry rs)) ≤ 28 * length rs
rules_bound [] h = omega arith
rules_bound (r ∷ rs) h =
    let rest = rules_bound rs h.1 in
    let size = literals_size (literals r) in
    let both = length-append (encoding (rule_entry r)) (flat_map encoding (map rule_entry rs)) in
    omega (arith, h.0)

module _ (m : Model) where
  parts : stored m ≡ flat_map encoding (map alternative_entry (alternatives m)) ++ (flat_map encoding (map rule_entry (rules m)) ++ codes "EN")
  parts =
      flat_map-append encoding (map alternative_entry (alternatives m)) (map rule_entry (rules m) ++ (end ∷ []))
      ∙ ap (λ bs. flat_map encoding (map alternative_entry (alternatives m)) ++ bs) (flat_map-append encoding (map rule_entry (rules m)) (end ∷ []))

  -- a card has at most 16 alternatives of 35 bytes, 128 rules of 28, and the end record
  pub stored_bounded : length (stored m) ≤ 4146
  stored_bounded =
      let first = flat_map encoding (map alternative_entry (alternatives m)) in
      let second = flat_map encoding (map rule_entry (rules m)) in
      let size = ap length parts ∙ length-append first (second ++ codes "EN") in
      let size-2 = length-append second (codes "EN") in
      let few-first = alternatives_bound (alternatives m) (model_choices m) in
      let few-second = rules_bound (rules m) (model_short m) in
      let count = alternatives_count m.alternatives m.declared (omega (arith, m.few, m.places)) in
      let count-2 = length-take-le m.held m.rules (omega (arith, m.within, m.shelves)) in
      omega (arith, m.few, m.within)

  module _ (as' : List Alternative) (rs : List Rule) (as_is : map weights_of as' ≡ alternatives m) (rs-is : rs ≡ rules m) where
    pub stored_parts : flat_map alternative_bytes as' ++ (flat_map rule_bytes rs ++ codes "EN") ≡ stored m
    stored_parts =
        let first : flat_map encoding (map alternative_entry (alternatives m)) ≡ flat_map alternative_bytes as' =
        ap (λ ws. flat_map encoding (map alternative_entry ws)) (sym as_is) ∙ flat_map-map encoding alternative_entry (map weights_of as') ∙ flat_map-map (λ ws. encoding (alternative_entry ws)) weights_of as' in
        let second : flat_map encoding (map rule_entry (rules m)) ≡ flat_map rule_bytes rs =
        flat_map-map encoding rule_entry (rules m) ∙ ap (flat_map rule_bytes) (sym rs-is) in
        sym (parts ∙ (λ i. first i ++ (second i ++ codes "EN")))

    pub stored_size : length (flat_map alternative_bytes as') + length (flat_map rule_bytes rs) + 2 ≡ length (stored m)
    stored_size =
        let all = ap length stored_parts in
        omega (arith, length-append (flat_map alternative_bytes as') (flat_map rule_bytes rs ++ codes "EN"), length-append (flat_map rule_bytes rs) (codes "EN"))

    pub few_weights : All (λ a. length (weights_of a) ≤ 8) as'
    few_weights = All-from_recursion (λ a. length (weights_of a) ≤ 8) as' (all_unmap (λ ws. length ws ≤ 8) weights_of as' (subst (AllByRecursion (λ ws. length ws ≤ 8)) (sym as_is) (All-weaker Choices (λ ws. length ws ≤ 8) (λ ws h. h.1) (alternatives m) (model_choices m))))

    pub few_literals : All Short rs
    few_literals = All-from_recursion Short rs (subst (AllByRecursion Short) (sym rs-is) (model_short m))
