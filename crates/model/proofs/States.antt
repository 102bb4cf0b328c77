-- One rule more among those that a model holds.
use Rattle.std.proofs.Common.{◌≡◌, ℕ, zero, suc, ◌+◌, ◌-◌, ◌≤◌, Bool, true, false, cond, not, ltb, List, [], ◌∷◌, ◌++◌, length, replicate, is_some, Some, None, Ok, Option, Result, sym, refl, ap, ◌∙◌, subst, inl, inr, ⊎_elim, arith}
use Rattle.std.proofs.lemmas.List.{take_at, drop_at, length-append, length-replicate}
use Rattle.std.proofs.lemmas.Bool.{and_parts, and_from, le-leb, eq-eqb}
use Rattle.std.proofs.lemmas.Bool.Decides.{nat_tests}
use Rattle.rows.specs.Keeping.{kept, kept_all}
use Rattle.rows.specs.Minimal.{Among, AllValid, Ascending, Minimals}
use Rattle.rows.proofs.Kept.{run_minimal}
use Rattle.rows.proofs.Members.{all_among, all_from_among, among_push}
use Rattle.rows.proofs.Pushes.{minimals_push, minimals_settled, kept_all_some, kept_all_fits, kept_fits}
use Rattle.model.specs.declared.literal.Literal.{Literal}
use Rattle.model.specs.declared.refusal.Refusal.{Refusal}
use Rattle.model.specs.declared.rule.Rule.{Rule}
use Rattle.model.specs.Holding.{taken, sound_rule, sound_rules}
use Rattle.model.specs.Judging.{is_atom, judge_head, judge_length, judge_literal, judge_from, judge_rule}
use Rattle.model.specs.Literals.{alike, sooner, blank_literal}
use Rattle.model.specs.Models.{sizes, judged, put_answer, stating}
use Rattle.model.specs.Refusals.{number, smaller}
use Rattle.model.specs.Rules.{literals, rule_below, rule_before, leads, ascends, blank, canonical, listing, as_set, minimal_rules, rule_of}
use Rattle.model.specs.Laws.{literal_orders, rule_orders}

-- nothing is refused only where none of the refusals is met
pub smaller_none : (a b : Option Refusal) → smaller a b ≡ None → (a ≡ None) × (b ≡ None)
smaller_none None b h = (refl, h)
smaller_none (Some a) None h = let z : ◌≡◌ {A = ℕ} 0 1 = cc in absurd (omega arith)
smaller_none (Some a) (Some b) h = go (ltb (number b) (number a)) h
  where
    go : (t : Bool) → cond t (Some b) (Some a) ≡ None → (Some a ≡ None) × (Some b ≡ None)
    go true k = let z : ◌≡◌ {A = ℕ} 0 1 = cc in absurd (omega arith)
    go false k = let z : ◌≡◌ {A = ℕ} 0 1 = cc in absurd (omega arith)

-- nor is a call accepted that meets one
pub judged_ok : {X : Type 0} (o : Option Refusal) (r : Result X Refusal) (x : X) → Ok x ≡ judged o r → o ≡ None
judged_ok None r x h = refl
judged_ok (Some f) r x h = let z : ◌≡◌ {A = ℕ} 0 1 = cc in absurd (omega arith)

-- at any place a literal is refused alike
free_anywhere : (sizes : List ℕ) (head at : ℕ) (l : Literal) → judge_literal sizes head at l ≡ None → judge_literal sizes head 0 l ≡ None
free_anywhere sizes head at l h = grind (arith, nat_tests)

judge_from_none : (found : Option Refusal) (sizes : List ℕ) (head at : ℕ) (ls : List Literal) → judge_from found sizes head at ls ≡ None → (found ≡ None) × ((l : Literal) → Among ls l → judge_literal sizes head 0 l ≡ None)
judge_from_none found sizes head at [] h = (h, λ l k. absurd k)
judge_from_none found sizes head at (x ∷ ls) h =
    let rest = judge_from_none (smaller found (judge_literal sizes head at x)) sizes head (at + 1) ls h in
    let both = smaller_none found (judge_literal sizes head at x) rest.0 in
    (both.0, λ l k. ⊎_elim (λ e. subst (λ (m : Literal). judge_literal sizes head 0 m ≡ None) e (free_anywhere sizes head at x both.1)) (rest.1 l) k)

pub record Free (sizes : List ℕ) (head : ℕ) (body : List Literal) : Type 0 where
  pub atom : is_atom head ≡ true
  pub short : length body ≤ 8
  pub each : (l : Literal) → Among body l → judge_literal sizes head 0 l ≡ None

pub judged_free : (sizes : List ℕ) (head : ℕ) (body : List Literal) → judge_rule sizes head body ≡ None → Free sizes head body
judged_free sizes head body h =
    let all = judge_from_none (smaller (judge_head head) (judge_length body)) sizes head 1 body h in
    let front = smaller_none (judge_head head) (judge_length body) all.0 in
    let first = front.0 in
    let second = front.1 in
    record { atom = grind (arith, nat_tests); short = grind (arith, nat_tests); each = all.1 }

-- the set of a body's literals
leads_from : (l : Literal) (ms : List Literal) → ((e : Literal) → Among ms e → sooner l e ≡ true) → leads l ms ≡ true
leads_from l [] h = refl
leads_from l (m ∷ ms) h = and_from _ _ (h m (inl refl)) (leads_from l ms (λ e k. h e (inr k)))

ascends_from : (ls : List Literal) → Ascending sooner ls → ascends ls ≡ true
ascends_from [] h = refl
ascends_from (l ∷ ls) h = and_from _ _ (leads_from l ls h.0) (ascends_from ls h.1)

blank_all : (n : ℕ) → blank (replicate n blank_literal) ≡ true
blank_all zero = refl
blank_all (suc n) = blank_all n

all_literals : (ls : List Literal) → AllValid (λ (l : Literal). true) ls
all_literals [] = tt
all_literals (l ∷ ls) = (refl, all_literals ls)

-- the rule of a body that is short enough
module _ (head : ℕ) (body : List Literal) (short : length body ≤ 8) where
  run : (ls : List Literal) × (kept_all alike sooner 8 [] body ≡ Some ls)
  run = kept_all_some alike sooner 8 body [] (omega arith)

  set_is : as_set body ≡ run.0
  set_is = ap listing run.1

  pub set_minimal : Minimals alike sooner body (as_set body)
  set_minimal = subst (Minimals alike sooner body) (sym set_is) (run_minimal literal_orders 8 body run.0 (all_literals body) run.1)

  set_short : length (as_set body) ≤ 8
  set_short = let fits = kept_all_fits alike sooner 8 body [] run.0 (omega arith) run.1 in omega (arith, ap length set_is)

  pub rule_literals : literals (rule_of head body) ≡ as_set body
  rule_literals = take_at (as_set body) (replicate (8 - length (as_set body)) blank_literal) (length (as_set body)) refl

  pub rule_canonical : canonical (rule_of head body) ≡ true
  rule_canonical =
      let ls = as_set body in
      let past = replicate (8 - length ls) blank_literal in
      let long : length (ls ++ past) ≡ 8 = length-append ls past ∙ rw length-replicate (omega (arith, set_short)) in
      and_from _ _ (eq-eqb (length (ls ++ past)) 8 long) (and_from _ _ (le-leb (length ls) 8 set_short)
      (and_from _ _ (ap ascends rule_literals ∙ ascends_from ls set_minimal.ascending) (ap blank (drop_at ls past (length ls) refl) ∙ blank_all (8 - length ls))))

taken_from : (sizes : List ℕ) (head : ℕ) (ls : List Literal) → ((l : Literal) → Among ls l → judge_literal sizes head 0 l ≡ None) → taken sizes head ls ≡ true
taken_from sizes head [] h = refl
taken_from sizes head (l ∷ ls) h = and_from _ _ (ap (λ o. not (is_some o)) (h l (inl refl))) (taken_from sizes head ls (λ m k. h m (inr k)))

pub rule_sound : (sizes : List ℕ) (head : ℕ) (body : List Literal) → Free sizes head body → sound_rule sizes (rule_of head body) ≡ true
rule_sound sizes head body f =
    and_from _ _ (rule_canonical head body f.short) (and_from _ _ f.atom
    (ap (taken sizes head) (rule_literals head body f.short) ∙ taken_from sizes head (as_set body) (λ l k. f.each l (((set_minimal head body f.short).members l).0 k).0)))

-- the held rules
pub sound_each : (sizes : List ℕ) (rs : List Rule) → sound_rules sizes rs ≡ true → (r : Rule) → Among rs r → sound_rule sizes r ≡ true
sound_each sizes [] h r k = absurd k
sound_each sizes (x ∷ rs) h r k =
    let both = and_parts (sound_rule sizes x) (sound_rules sizes rs) h in
    ⊎_elim (λ e. subst (λ (s : Rule). sound_rule sizes s ≡ true) e both.0) (sound_each sizes rs both.1 r) k

pub sound_from : (sizes : List ℕ) (rs : List Rule) → ((r : Rule) → Among rs r → sound_rule sizes r ≡ true) → sound_rules sizes rs ≡ true
sound_from sizes [] h = refl
sound_from sizes (x ∷ rs) h = and_from _ _ (h x (inl refl)) (sound_from sizes rs (λ r k. h r (inr k)))

pub sound_valid : (sizes : List ℕ) (rs : List Rule) → sound_rules sizes rs ≡ true → AllValid canonical rs
sound_valid sizes rs h = all_from_among (λ r. canonical r ≡ true) rs (λ r k. (and_parts (canonical r) _ (sound_each sizes rs h r k)).0)

-- rules that a run leaves as they are, are the minimal ones of themselves
pub held_minimal : (sizes : List ℕ) (rs : List Rule) → sound_rules sizes rs ≡ true → length rs ≤ 128 → minimal_rules rs ≡ rs → Minimals rule_below rule_before rs rs
held_minimal sizes rs sound room same =
    let some = kept_all_some rule_below rule_before 128 rs [] (omega arith) in
    let is : some.0 ≡ rs = ap listing (sym some.1) ∙ same in
    subst (Minimals rule_below rule_before rs) is (run_minimal rule_orders 128 rs some.0 (sound_valid sizes rs sound) some.1)

-- a rule is put to the held ones and not refused
module _ (sizes : List ℕ) (rs : List Rule) (x : Rule) (zs : List Rule) (sound : sound_rules sizes rs ≡ true) (new : sound_rule sizes x ≡ true) (room : length rs ≤ 128)
    (same : minimal_rules rs ≡ rs) (put : kept rule_below rule_before 128 rs x ≡ Some zs) where
  valid : canonical x ≡ true
  valid = (and_parts (canonical x) _ new).0

  all : Minimals rule_below rule_before (rs ++ (x ∷ [])) zs
  all = minimals_push rule_orders 128 rs rs x zs (sound_valid sizes rs sound) valid (held_minimal sizes rs sound room same) put

  pub put_sound : sound_rules sizes zs ≡ true
  put_sound = sound_from sizes zs (λ r k. ⊎_elim (sound_each sizes rs sound r) (λ e. subst (λ (s : Rule). sound_rule sizes s ≡ true) e new) (among_push rs x r ((all.members r).0 k).0))

  pub put_minimal : minimal_rules zs ≡ zs
  put_minimal =
      let both = all_from_among (λ r. canonical r ≡ true) (rs ++ (x ∷ [])) (λ r k. ⊎_elim (all_among (λ r. canonical r ≡ true) rs (sound_valid sizes rs sound) r) (λ e. subst (λ (s : Rule). canonical s ≡ true) e valid) (among_push rs x r k)) in
      ap listing (minimals_settled rule_orders 128 (rs ++ (x ∷ [])) zs both all (kept_fits rule_below rule_before 128 rs x zs room put))

-- the answer, where no literal is refused
pub stating_put : (as' : List (List ℕ)) (rs : List Rule) (head : ℕ) (body : List Literal) (rule : Rule) (o : Option (List Rule)) → judge_rule (sizes as') head body ≡ None
    → rule ≡ rule_of head body → o ≡ kept rule_below rule_before 128 rs rule → put_answer o ≡ stating as' rs head body
stating_put as' rs head body rule o free is put =
    ap put_answer (put ∙ ap (kept rule_below rule_before 128 rs) is)
    ∙ sym (ap (λ j. judged j (put_answer (kept rule_below rule_before 128 rs (rule_of head body)))) free)
