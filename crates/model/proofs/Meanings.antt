-- What the rules of a journal, and those that a model holds, say of worlds.
use Rattle.std.proofs.Common.{◌≡◌, ℕ, ◌<◌, Bool, ◌⊎◌, List, map, None, sym, ap, ◌∙◌, subst, inl, inr, ⊎_elim, arith}
use Rattle.std.proofs.lemmas.Bool.Decides.{nat_tests}
use Rattle.rows.specs.Minimal.{Among}
use Rattle.rows.proofs.Members.{all_among}
use Rattle.logic.proofs.Members.{among_map, map_among}
use Rattle.logic.proofs.Truths as truths
use Rattle.logic.specs.Options.{Row}
use Rattle.logic.specs.Rules as logic
use Rattle.model.specs.declared.literal.Literal.{Literal}
use Rattle.model.specs.declared.model.Model.{Model}
use Rattle.model.specs.declared.rule.Rule.{Rule}
use Rattle.model.specs.declared.suppositions.Suppositions.{Suppositions}
use Rattle.model.specs.Journal.{Stated, Journal, as_rule, Taken, Agrees}
use Rattle.model.specs.Judging.{judge_literal}
use Rattle.model.specs.Meaning.{meaning, stated_rule, held_rule, all_rules, held_rules, RulesLayered, HeldAlike}
use Rattle.model.specs.Models.{rules, sizes}
use Rattle.model.specs.Rules.{literals}
use Rattle.rows.proofs.Pushes.{minimals_stand}
use Rattle.model.proofs.Journals.{all_canonical}
use Rattle.model.specs.Laws.{alike_same, below_parts, rule_orders}
use Rattle.model.proofs.States.{Free, judged_free, set_minimal, rule_literals}

-- an atom that a free literal speaks of is lower than the head
lower : (ns : List ℕ) (head a : ℕ) (l : Literal) → judge_literal ns head 0 l ≡ None → (meaning l ≡ logic.is_true a) ⊎ (meaning l ≡ logic.is_false a) → a < head
lower ns head a l free is =
    ⊎_elim
    (λ e. let kind : l.kind ≡ 0 = grind (arith, nat_tests) in let same : l.first ≡ a = grind (arith, nat_tests) in grind (arith, nat_tests))
    (λ e. let kind : l.kind ≡ 1 = grind (arith, nat_tests) in let same : l.first ≡ a = grind (arith, nat_tests) in grind (arith, nat_tests))
    is

pub lower_all : (ns : List ℕ) (head a : ℕ) (ls : List Literal) → ((l : Literal) → Among ls l → judge_literal ns head 0 l ≡ None) → logic.Uses (map meaning ls) a → a < head
lower_all ns head a ls free uses =
    ⊎_elim
    (λ k. let r = map_among meaning ls (logic.is_true a) k in lower ns head a r.0 (free r.0 r.1) (inl r.2))
    (λ k. let r = map_among meaning ls (logic.is_false a) k in lower ns head a r.0 (free r.0 r.1) (inr r.2))
    uses

-- a journal, and a session that agrees with it
module _ (j : Journal) (m : Model) (s : Suppositions) (g : Agrees j m s) where
  abbrev ns : List ℕ
  ns = sizes j.declared

  free_stated : (t : Stated) → Among j.stated t → Free ns t.head t.body
  free_stated t k = judged_free ns t.head t.body (all_among (Taken j.declared) j.stated g.taken t k)

  -- the literals of a stated rule are those of its body
  literals_to : (t : Stated) → Among j.stated t → (l : Literal) → Among (literals (as_rule t)) l → Among t.body l
  literals_to t k l h =
      let short = (free_stated t k).short in
      (((set_minimal t.head t.body short).members l).0 (subst (λ (ls : List Literal). Among ls l) (rule_literals t.head t.body short) h)).0

  literals_from : (t : Stated) → Among j.stated t → (l : Literal) → Among t.body l → Among (literals (as_rule t)) l
  literals_from t k l h =
      let short = (free_stated t k).short in
      subst (λ (ls : List Literal). Among ls l) (sym (rule_literals t.head t.body short)) (((set_minimal t.head t.body short).members l).1 (h, λ e p b. alike_same e l b))

  -- a held rule was stated
  held_stated : (r : Rule) → Among (rules m) r → (t : Stated) × Among j.stated t × (as_rule t ≡ r)
  held_stated r k = map_among as_rule j.stated r ((g.held.members r).0 k).0

  layered_all : logic.Layered (all_rules j)
  layered_all r a k uses =
      let t = map_among stated_rule j.stated r k in
      let at : logic.Uses (map meaning t.0.body) a = subst (λ (q : logic.Rule). logic.Uses q.body a) (sym t.2) uses in
      subst (λ (q : logic.Rule). a < q.head) t.2 (lower_all ns t.0.head a t.0.body (free_stated t.0 t.1).each at)

  layered_held : logic.Layered (held_rules m)
  layered_held r a k uses =
      let h = map_among held_rule (rules m) r k in
      let t = held_stated h.0 h.1 in
      let is : held_rule (as_rule t.0) ≡ r = ap held_rule t.2 ∙ h.2 in
      let at : logic.Uses (map meaning (literals (as_rule t.0))) a = subst (λ (q : logic.Rule). logic.Uses q.body a) (sym is) uses in
      subst (λ (q : logic.Rule). a < q.head) is (lower_all ns t.0.head a (literals (as_rule t.0)) (λ l p. (free_stated t.0 t.1).each l (literals_to t.0 t.1 l p)) at)

  -- whatever the atoms are, both lists of rules derive the same from them
  module _ (w : Row) (v : ℕ → Bool) (a : ℕ) where
    to_all : logic.Derived (held_rules m) w v a → logic.Derived (all_rules j) w v a
    to_all d =
        let h = map_among held_rule (rules m) d.0 d.1 in
        let t = held_stated h.0 h.1 in
        let is : held_rule (as_rule t.0) ≡ d.0 = ap held_rule t.2 ∙ h.2 in (
          stated_rule t.0,
          among_map stated_rule j.stated t.0 t.1,
          ap (λ (q : logic.Rule). q.head) is ∙ d.2,
          λ l k.
              let b = map_among meaning t.0.body l k in
              let here = among_map meaning (literals (as_rule t.0)) b.0 (literals_from t.0 t.1 b.0 b.1) in
              d.3 l (subst (λ (q : logic.Rule). Among q.body l) is (subst (Among (map meaning (literals (as_rule t.0)))) b.2 here)),
        )

    to_held : logic.Derived (all_rules j) w v a → logic.Derived (held_rules m) w v a
    to_held d =
        let t = map_among stated_rule j.stated d.0 d.1 in
        let c = (minimals_stand rule_orders (map as_rule j.stated) (rules m) (all_canonical j.declared j.stated g.taken) g.held).cover (as_rule t.0) (among_map as_rule j.stated t.0 t.1) in
        let b = below_parts c.0 (as_rule t.0) c.2 in (
          held_rule c.0,
          among_map held_rule (rules m) c.0 c.1,
          b.0 ∙ ap (λ (q : logic.Rule). q.head) t.2 ∙ d.2,
          λ l k.
              let h = map_among meaning (literals c.0) l k in
              let here = among_map meaning t.0.body h.0 (literals_to t.0 t.1 h.0 (b.1 h.0 h.1)) in
              d.3 l (subst (λ (q : logic.Rule). Among q.body l) t.2 (subst (Among (map meaning t.0.body)) h.2 here)),
        )

  held_alike : (w : Row) (a : ℕ) → logic.truth (held_rules m) w a ≡ logic.truth (all_rules j) w a
  held_alike w a =
      let v = logic.truth (held_rules m) w in
      let stable = truths.truth_stable (held_rules m) w layered_held in
      truths.truth_only (all_rules j) w v layered_all (λ b. (λ h. to_all w v b ((stable b).0 h), λ h. (stable b).1 (to_held w v b h))) a

pub rules_layered : RulesLayered
rules_layered j m s g = (layered_all j m s g, layered_held j m s g)

pub held_rules_alike : HeldAlike
held_rules_alike = held_alike
