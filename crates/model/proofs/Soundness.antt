-- What the rules of a model keep to.
use Rattle.std.proofs.Common.{◌≡◌, ℕ, ◌<◌, true, not, List, [], ◌∷◌, map, take, is_some, Some, None, Option, sym, refl, subst, ⊎_elim, arith}
use Rattle.std.specs.List.{AllByRecursion}
use Rattle.std.proofs.lemmas.Bool.{and_parts, and_from, or_cases}
use Rattle.rows.specs.Minimal.{Among}
use Rattle.rows.proofs.Members.{all_among}
use Rattle.logic.specs.Rules as logic
use Rattle.logic.proofs.Members.{map_among}
use Rattle.model.specs.declared.literal.Literal.{Literal}
use Rattle.model.specs.declared.model.Model.{Model}
use Rattle.model.specs.declared.refusal.Refusal.{Refusal}
use Rattle.model.specs.declared.rule.Rule.{Rule}
use Rattle.model.specs.Holding.{sizes_of, taken, sound_rule, sound_rules}
use Rattle.model.specs.Judging.{is_atom, judge_literal, judge_rule}
use Rattle.model.specs.Meaning.{meaning, held_rule, held_rules}
use Rattle.model.specs.Models.{rules}
use Rattle.model.specs.Rules.{literals, canonical, subset}
use Rattle.model.proofs.Journals.{free_judged}
use Rattle.model.specs.Laws.{alike_same, among_covered, canonical_is}
use Rattle.model.proofs.Meanings.{lower_all}
use Rattle.model.proofs.States.{judged_free}

-- a held rule is one that the model takes
none_of : (o : Option Refusal) → not (is_some o) ≡ true → o ≡ None
none_of None h = refl
none_of (Some f) h = cc

taken_each : (ns : List ℕ) (head : ℕ) (ls : List Literal) → taken ns head ls ≡ true → (l : Literal) → subset (l ∷ []) ls ≡ true → judge_literal ns head 0 l ≡ None
taken_each ns head [] h l k = cc
taken_each ns head (x ∷ ls) h l k =
    let both = and_parts (not (is_some (judge_literal ns head 0 x))) (taken ns head ls) h in
    ⊎_elim
    (λ e. subst (λ (y : Literal). judge_literal ns head 0 y ≡ None) (alike_same x l e) (none_of (judge_literal ns head 0 x) both.0))
    (λ e. taken_each ns head ls both.1 l (and_from _ _ e refl))
    (or_cases _ _ (and_parts _ _ k).0)

sound_taken : (ns : List ℕ) (r : Rule) → sound_rule ns r ≡ true → judge_rule ns r.head (literals r) ≡ None
sound_taken ns r h =
    let a = and_parts (canonical r) _ h in
    let b = and_parts (is_atom r.head) (taken ns r.head (literals r)) a.1 in
    let c = canonical_is r a.0 in
    free_judged ns r.head (literals r) (record {
      atom = b.0;
      short = omega (arith, c.few, c.counted);
      each = λ l k. taken_each ns r.head (literals r) b.1 l (and_from _ _ (among_covered (literals r) l k) refl);
    })

pub all_taken : (ns : List ℕ) (rs : List Rule) → sound_rules ns rs ≡ true → AllByRecursion (λ r. judge_rule ns r.head (literals r) ≡ None) rs
all_taken ns [] h = tt
all_taken ns (r ∷ rs) h = let both = and_parts (sound_rule ns r) (sound_rules ns rs) h in (sound_taken ns r both.0, all_taken ns rs both.1)

-- so every atom in a body is lower than the head
sound_lower : (ns : List ℕ) (rs : List Rule) → sound_rules ns rs ≡ true → (r : Rule) → Among rs r → (a : ℕ) → logic.Uses (map meaning (literals r)) a → a < r.head
sound_lower ns rs h r i a uses =
    let free = judged_free ns r.head (literals r) (all_among (λ (q : Rule). judge_rule ns q.head (literals q) ≡ None) rs (all_taken ns rs h) r i) in
    lower_all ns r.head a (literals r) free.each uses

pub held_layered : (m : Model) → logic.Layered (held_rules m)
held_layered m q a i uses =
    let h = map_among held_rule (rules m) q i in
    subst (λ (p : logic.Rule). a < p.head) h.2 (sound_lower (sizes_of (take m.declared m.alternatives)) (rules m) m.sound h.0 h.1 a (subst (λ (p : logic.Rule). logic.Uses p.body a) (sym h.2) uses))
