-- A journal determines the session that agrees with it.
use Rattle.std.proofs.Common.{◌≡◌, ℕ, ◌-◌, true, eqb, List, [], ◌∷◌, ◌++◌, map, length, take, drop, replicate, sym, refl, ap, ◌∙◌, arith}
use Rattle.std.proofs.lemmas.List.{length-drop, length-take-le, take-append-drop}
use Rattle.std.proofs.lemmas.Bool.{and_parts, eqb-true}
use Rattle.std.proofs.lemmas.Bool.Decides.{nat_tests}
use Rattle.rows.proofs.Kept.{ascending_same}
use Rattle.rows.proofs.Members.{all_among}
use Rattle.model.specs.declared.alternative.Alternative.{Alternative}
use Rattle.model.specs.declared.model.Model.{Model}
use Rattle.model.specs.declared.suppositions.Suppositions.{Suppositions}
use Rattle.model.specs.Alternatives.{weights_of, alternative_of, blank_alternative, zeros, canonical_alternative, canonical_alternatives}
use Rattle.model.specs.Holding.{sizes_of}
use Rattle.model.specs.Meaning.{Determined}
use Rattle.model.specs.Models.{alternatives, rules}
use Rattle.model.specs.Rules.{canonical, blank_rule}
use Rattle.model.proofs.Declares.{alternatives_count}
use Rattle.model.specs.Laws.{rule_orders}
use Rattle.model.specs.Same.{model_same}
use Rattle.model.proofs.States.{sound_valid}
use Rattle.model.proofs.Tables.{weights_count}

zeros_are : (ns : List ℕ) → zeros ns ≡ true → ns ≡ replicate (length ns) 0
zeros_are [] h = refl
zeros_are (n ∷ ns) h =
    let both = and_parts (eqb n 0) (zeros ns) h in
    let first = eqb-true n 0 both.0 in
    let rest = zeros_are ns both.1 in
    cc

-- a canonical alternative is its weights
alternative_is : (a : Alternative) → canonical_alternative a ≡ true → a ≡ alternative_of (weights_of a)
alternative_is a h =
    let long : length a.weights ≡ 8 = grind (arith, nat_tests) in
    let past : zeros (drop a.choices a.weights) ≡ true = grind (arith, nat_tests) in
    let count = weights_count a h in
    let size : length (drop a.choices a.weights) ≡ 8 - length (weights_of a) = simp length-drop (omega arith) in
    let all : a.weights ≡ weights_of a ++ replicate (8 - length (weights_of a)) 0 =
    sym (take-append-drop a.choices a.weights) ∙ ap (λ ns. weights_of a ++ ns) (zeros_are (drop a.choices a.weights) past ∙ ap (λ n. replicate n 0) size) in
    λ i. record { choices = sym count i; weights = all i }

alternatives_are : (as' : List Alternative) → canonical_alternatives as' ≡ true → as' ≡ map alternative_of (map weights_of as')
alternatives_are [] h = refl
alternatives_are (a ∷ as') h =
    let both = and_parts (canonical_alternative a) (canonical_alternatives as') h in
    let first = alternative_is a both.0 in
    let rest = alternatives_are as' both.1 in
    cc

-- the fields of a model, out of what it holds
module _ (m : Model) where
  declared_is : m.declared ≡ length (alternatives m)
  declared_is = sym (alternatives_count m.alternatives m.declared (omega (arith, m.few, m.places)))

  table_is : m.alternatives ≡ map alternative_of (alternatives m) ++ replicate (16 - length (alternatives m)) blank_alternative
  table_is =
      sym (take-append-drop m.declared m.alternatives)
      ∙ ap (λ as'. as' ++ drop m.declared m.alternatives) (alternatives_are (take m.declared m.alternatives) m.canonical)
      ∙ ap (λ as'. map alternative_of (alternatives m) ++ as') (m.unused ∙ ap (λ n. replicate (16 - n) blank_alternative) declared_is)

  held_is : m.held ≡ length (rules m)
  held_is = sym (length-take-le m.held m.rules (omega (arith, m.within, m.shelves)))

  shelf_is : m.rules ≡ rules m ++ replicate (128 - length (rules m)) blank_rule
  shelf_is = sym (take-append-drop m.held m.rules) ∙ ap (λ rs. rules m ++ rs) (m.unheld ∙ ap (λ n. replicate (128 - n) blank_rule) held_is)

-- equal models are those that hold the same
pub held_same : (m n : Model) → alternatives m ≡ alternatives n → rules m ≡ rules n → m ≡ n
held_same m n p q =
    model_same m n
    (declared_is m ∙ ap length p ∙ sym (declared_is n))
    (table_is m ∙ ap (λ as'. map alternative_of as' ++ replicate (16 - length as') blank_alternative) p ∙ sym (table_is n))
    (held_is m ∙ ap length q ∙ sym (held_is n))
    (shelf_is m ∙ ap (λ rs. rs ++ replicate (128 - length rs) blank_rule) q ∙ sym (shelf_is n))

suppositions_same : (s t : Suppositions) → s.choices ≡ t.choices → s ≡ t
suppositions_same s t e = ap (λ (cs : List ℕ). let u : Suppositions = record { choices = cs } in u) e

pub determined : Determined
determined j m n s t g h =
    let valid = all_among (λ r. canonical r ≡ true) (rules m) (sound_valid (sizes_of (take m.declared m.alternatives)) (rules m) m.sound) in
    let same : rules m ≡ rules n =
    ascending_same rule_orders (rules m) (rules n) valid g.held.ascending h.held.ascending (λ r. (λ k. (h.held.members r).1 ((g.held.members r).0 k), λ k. (g.held.members r).1 ((h.held.members r).0 k))) in
    (held_same m n (g.declared ∙ sym h.declared) same, suppositions_same s t (g.supposed ∙ sym h.supposed))
