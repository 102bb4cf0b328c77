-- The orders of literals and of rules.
use Rattle.std.specs.Prelude.{◌≡◌, ℕ, ◌-◌, ◌≤◌, true, List, [], ◌∷◌, ◌++◌, length, drop, replicate, ◌==◌, nat_le, refl}
use Rattle.std.proofs.Common.{inl, inr, ⊎_elim, sym, ap, subst, ◌∙◌, arith}
use Rattle.std.specs.List.{flat_map}
use Rattle.std.proofs.lemmas.List.{length-take-le, length-drop, take-append-drop}
use Rattle.std.proofs.lemmas.Bool.{and_parts, and_from, eqb-true, eq-eqb, leb-true}
use Rattle.std.proofs.lemmas.Bool.Decides.{nat_tests}
use Rattle.rows.specs.Keeping.{covered}
use Rattle.rows.specs.Minimal.{Among, Ascending}
use Rattle.rows.specs.Orders.{Orders}
use Rattle.rows.proofs.Kept.{ascending_same}
use Rattle.rows.proofs.Members.{covered_some, covered_by}
use Rattle.rows.specs.RowLaws.{earlier_apart, earlier_onward, earlier_total}
use Rattle.model.specs.declared.literal.Literal.{Literal}
use Rattle.model.specs.declared.rule.Rule.{Rule}
use Rattle.model.specs.Literals.{numbers, alike, sooner, blank_literal}
use Rattle.model.specs.Rules.{literals, subset, rule_below, key, rule_before, leads, ascends, blank, canonical, tabled}

-- a literal is its three numbers
pub literal_same : (l m : Literal) → l.kind ≡ m.kind → l.first ≡ m.first → l.second ≡ m.second → l ≡ m
literal_same l m p q r = λ i. record { kind = p i; first = q i; second = r i }

pub alike_same : (l m : Literal) → alike l m ≡ true → l ≡ m
alike_same l m h = literal_same l m (grind (arith, nat_tests)) (grind (arith, nat_tests)) (grind (arith, nat_tests))

pub alike_itself : (l : Literal) → alike l l ≡ true
alike_itself l = grind (arith, nat_tests)

pub literal_orders : Orders (λ (l : Literal). true) alike sooner
literal_orders = record {
  itself = λ l _. alike_itself l;
  through = λ l m n _ _ _ p q. subst (λ (k : Literal). alike l k ≡ true) (alike_same m n q) p;
  same = λ l m _ _ p q. alike_same l m p;
  apart = λ l _. earlier_apart (numbers l);
  onward = λ l m n _ _ _. earlier_onward (numbers l) (numbers m) (numbers n);
  total = λ l m _ _ p q. let e = earlier_total (numbers l) (numbers m) p q in literal_same l m (cc) (cc) (cc);
}

-- membership and subsets
pub among_covered : (ms : List Literal) (l : Literal) → Among ms l → covered alike ms l ≡ true
among_covered ms l k = covered_by alike l ms l k (alike_itself l)

pub covered_among : (ms : List Literal) (l : Literal) → covered alike ms l ≡ true → Among ms l
covered_among ms l h = let r = covered_some alike l ms h in subst (Among ms) (alike_same r.0 l r.2) r.1

pub subset_among : (ls ms : List Literal) → subset ls ms ≡ true → (l : Literal) → Among ls l → Among ms l
subset_among [] ms h l k = absurd k
subset_among (x ∷ ls) ms h l k =
    let both = and_parts (covered alike ms x) (subset ls ms) h in
    ⊎_elim (λ e. subst (Among ms) e (covered_among ms x both.0)) (subset_among ls ms both.1 l) k

pub subset_from : (ls ms : List Literal) → ((l : Literal) → Among ls l → Among ms l) → subset ls ms ≡ true
subset_from [] ms h = refl
subset_from (x ∷ ls) ms h = and_from _ _ (among_covered ms x (h x (inl refl))) (subset_from ls ms (λ l k. h l (inr k)))

-- bodies in order
leads_all : (l : Literal) (ms : List Literal) → leads l ms ≡ true → (e : Literal) → Among ms e → sooner l e ≡ true
leads_all l [] h e k = absurd k
leads_all l (m ∷ ms) h e k =
    let both = and_parts (sooner l m) (leads l ms) h in
    ⊎_elim (λ q. subst (λ (x : Literal). sooner l x ≡ true) q both.0) (leads_all l ms both.1 e) k

pub ascends_ascending : (ls : List Literal) → ascends ls ≡ true → Ascending sooner ls
ascends_ascending [] h = tt
ascends_ascending (l ∷ ls) h = let both = and_parts (leads l ls) (ascends ls) h in (leads_all l ls both.0, ascends_ascending ls both.1)

blank_is : (ls : List Literal) → blank ls ≡ true → ls ≡ replicate (length ls) blank_literal
blank_is [] h = refl
blank_is (l ∷ ls) h =
    let both = and_parts (alike l blank_literal) (blank ls) h in
    let first = alike_same l blank_literal both.0 in
    let rest = blank_is ls both.1 in
    cc

-- a canonical rule is its head and its literals
pub record Canonical (r : Rule) : Type 0 where
  pub places : length r.body ≡ 8
  pub few : r.len ≤ 8
  pub ordered : ascends (literals r) ≡ true
  pub padded : r.body ≡ tabled (literals r)
  pub counted : r.len ≡ length (literals r)

pub canonical_is : (r : Rule) → canonical r ≡ true → Canonical r
canonical_is r h =
    let a = and_parts (length r.body == 8) _ h in
    let b = and_parts (nat_le r.len 8) _ a.1 in
    let d = and_parts (ascends (literals r)) (blank (drop r.len r.body)) b.1 in
    let places = eqb-true (length r.body) 8 a.0 in
    let few = leb-true r.len 8 b.0 in
    let count : length (literals r) ≡ r.len = length-take-le r.len r.body (omega arith) in
    let past : length (drop r.len r.body) ≡ 8 - length (literals r) = simp length-drop (omega arith) in
    record {
      places = places;
      few = few;
      ordered = d.0;
      padded = sym (take-append-drop r.len r.body) ∙ ap (λ ls. literals r ++ ls) (blank_is (drop r.len r.body) d.1 ∙ ap (λ n. replicate n blank_literal) past);
      counted = sym count;
    }

pub rule_same : (r s : Rule) → canonical r ≡ true → canonical s ≡ true → r.head ≡ s.head → literals r ≡ literals s → r ≡ s
rule_same r s p q head body =
    let c = canonical_is r p in
    let d = canonical_is s q in
    let len : r.len ≡ s.len = c.counted ∙ ap length body ∙ sym d.counted in
    let all : r.body ≡ s.body = c.padded ∙ ap tabled body ∙ sym d.padded in
    λ i. record { head = head i; len = len i; body = all i }

-- the numbers of literals tell the literals
joined_same : (ls ms : List Literal) → flat_map numbers ls ≡ flat_map numbers ms → ls ≡ ms
joined_same [] [] h = refl
joined_same [] (m ∷ ms) h = let z : ◌≡◌ {A = ℕ} 0 1 = cc in absurd (omega arith)
joined_same (l ∷ ls) [] h = let z : ◌≡◌ {A = ℕ} 0 1 = cc in absurd (omega arith)
joined_same (l ∷ ls) (m ∷ ms) h =
    let kind : l.kind ≡ m.kind = cc in
    let first : l.first ≡ m.first = cc in
    let second : l.second ≡ m.second = cc in
    let rest : flat_map numbers ls ≡ flat_map numbers ms = cc in
    let one = literal_same l m kind first second in
    let others = joined_same ls ms rest in
    cc

pub below_parts : (r s : Rule) → rule_below r s ≡ true → (r.head ≡ s.head) × ((l : Literal) → Among (literals r) l → Among (literals s) l)
below_parts r s h = let both = and_parts (r.head == s.head) (subset (literals r) (literals s)) h in (eqb-true r.head s.head both.0, subset_among (literals r) (literals s) both.1)

below_from : (r s : Rule) → r.head ≡ s.head → ((l : Literal) → Among (literals r) l → Among (literals s) l) → rule_below r s ≡ true
below_from r s head body = and_from _ _ (eq-eqb r.head s.head head) (subset_from (literals r) (literals s) body)

pub rule_orders : Orders canonical rule_below rule_before
rule_orders = record {
  itself = λ r _. below_from r r refl (λ l k. k);
  through = λ r s t _ _ _ p q. let a = below_parts r s p in let b = below_parts s t q in below_from r t (a.0 ∙ b.0) (λ l k. b.1 l (a.1 l k));
  same = λ r s p q h k.
      let a = below_parts r s h in
      let b = below_parts s r k in
      rule_same r s p q a.0 (ascending_same literal_orders (literals r) (literals s) (λ l m. refl) (ascends_ascending (literals r) (canonical_is r p).ordered) (ascends_ascending (literals s) (canonical_is s q).ordered) (λ l. (a.1 l, b.1 l)));
  apart = λ r _. earlier_apart (key r);
  onward = λ r s t _ _ _. earlier_onward (key r) (key s) (key t);
  total = λ r s p q h k.
      let e = earlier_total (key r) (key s) h k in
      let head : r.head ≡ s.head = cc in
      let rest : flat_map numbers (literals r) ≡ flat_map numbers (literals s) = cc in
      rule_same r s p q head (joined_same (literals r) (literals s) rest);
}
