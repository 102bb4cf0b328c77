-- What each call keeps between a journal and a session.
use Rattle.std.proofs.Common.{◌≡◌, ℕ, zero, suc, ◌+◌, ◌-◌, false, List, [], ◌∷◌, ◌++◌, map, length, get_or, set, replicate, is_ok, IfErr, Some, None, Ok, Err, Option, Result, sym, refl, ap, ◌∙◌, subst, inl, inr, arith, length-set}
use Rattle.std.specs.List.{AllByRecursion}
use Rattle.std.proofs.ByRecursion.{All-push, All-weaker}
use Rattle.std.proofs.lemmas.List.{map_push, map-set, set-get_or}
use Rattle.std.proofs.lemmas.Bool.{le-leb, cond-true}
use Rattle.std.proofs.lemmas.Bool.Decides.{nat_tests}
use Rattle.rows.specs.Keeping.{kept}
use Rattle.rows.specs.Minimal.{Among, AllValid, Minimals}
use Rattle.rows.proofs.Pushes.{minimals_push}
use Rattle.model.specs.declared.literal.Literal.{Literal}
use Rattle.model.specs.declared.model.Model.{Model}
use Rattle.model.specs.declared.refusal.Refusal.{Refusal}
use Rattle.model.specs.declared.rule.Rule.{Rule}
use Rattle.model.specs.declared.suppositions.Suppositions.{Suppositions}
use Rattle.model.specs.Journal.{Stated, Journal, Call, declares, weighs, states, feed, as_rule, Taken, Agrees, fresh}
use Rattle.model.specs.Judging.{judge_head, judge_length, judge_literal, judge_from, judge_rule}
use Rattle.model.specs.Models.{alternatives, rules, sizes, declaring, reweighing, weighing, put_answer, judged, stating, outcome}
use Rattle.model.specs.Refusals.{smaller}
use Rattle.model.specs.Rules.{rule_below, rule_before, canonical, rule_of}
use Rattle.model.specs.Laws.{rule_orders}
use Rattle.model.proofs.Sizes.{Wider, one_wider, judge_wider}
use Rattle.model.proofs.States.{Free, judged_free, rule_canonical}

-- a rule that is free of refusals is judged so
free_there : (sizes : List ℕ) (head at : ℕ) (l : Literal) → judge_literal sizes head 0 l ≡ None → judge_literal sizes head at l ≡ None
free_there sizes head at l h = grind (arith, nat_tests)

free_from : (sizes : List ℕ) (head at : ℕ) (ls : List Literal) → ((l : Literal) → Among ls l → judge_literal sizes head 0 l ≡ None) → judge_from None sizes head at ls ≡ None
free_from sizes head at [] h = refl
free_from sizes head at (l ∷ ls) h =
    ap (λ o. judge_from o sizes head (at + 1) ls) (free_there sizes head at l (h l (inl refl))) ∙ free_from sizes head (at + 1) ls (λ m k. h m (inr k))

pub free_judged : (sizes : List ℕ) (head : ℕ) (body : List Literal) → Free sizes head body → judge_rule sizes head body ≡ None
free_judged sizes head body f =
    let first : judge_head head ≡ None = cond-true _ _ _ f.atom in
    let second : judge_length body ≡ None = cond-true _ _ _ (le-leb (length body) 8 f.short) in
    ap (λ o. judge_from o sizes head 1 body) (ap (λ o. smaller o (judge_length body)) first ∙ second) ∙ free_from sizes head 1 body f.each

taken_wider : (as' bs : List (List ℕ)) → Wider (sizes as') (sizes bs) → (s : Stated) → Taken as' s → Taken bs s
taken_wider as' bs wider s h =
    let f = judged_free (sizes as') s.head s.body h in
    free_judged (sizes bs) s.head s.body (record { atom = f.atom; short = f.short; each = λ l k. judge_wider (sizes as') (sizes bs) wider s.head 0 l (f.each l k) })

-- accepted calls, told by their answers
declared_ok : (as' bs : List (List ℕ)) (weights : List ℕ) → Ok bs ≡ declaring as' weights → bs ≡ as' ++ (weights ∷ [])
declared_ok as' bs weights h = grind arith

weighed_ok : (as' bs : List (List ℕ)) (a c w : ℕ) → Ok bs ≡ weighing as' a c w → bs ≡ reweighing as' a c w
weighed_ok as' bs a c w h = grind arith

stated_ok : (as' : List (List ℕ)) (rs zs : List Rule) (head : ℕ) (body : List Literal) → Ok zs ≡ stating as' rs head body
    → (judge_rule (sizes as') head body ≡ None) × (kept rule_below rule_before 128 rs (rule_of head body) ≡ Some zs)
stated_ok as' rs zs head body h = go (judge_rule (sizes as') head body) (kept rule_below rule_before 128 rs (rule_of head body)) refl refl h
  where
    go : (j : Option Refusal) (o : Option (List Rule)) → judge_rule (sizes as') head body ≡ j → kept rule_below rule_before 128 rs (rule_of head body) ≡ o → Ok zs ≡ judged j (put_answer o)
        → (judge_rule (sizes as') head body ≡ None) × (kept rule_below rule_before 128 rs (rule_of head body) ≡ Some zs)
    go (Some f) o p q e = let z : ◌≡◌ {A = ℕ} 0 1 = cc in absurd (omega arith)
    go None None p q e = let z : ◌≡◌ {A = ℕ} 0 1 = cc in absurd (omega arith)
    go None (Some ws) p q e = (p, cc)

-- the sizes of alternatives of which one weight was set
get_or_length : (as' : List (List ℕ)) (i : ℕ) → get_or (sizes as') i 0 ≡ length (get_or as' i [])
get_or_length [] i = refl
get_or_length (a ∷ as') zero = refl
get_or_length (a ∷ as') (suc i) = get_or_length as' i

pub reweighed_sizes : (as' : List (List ℕ)) (a c w : ℕ) → sizes (reweighing as' a c w) ≡ sizes as'
reweighed_sizes as' a c w =
    map-set length as' (a - 1) (set (get_or as' (a - 1) []) (c - 1) w)
    ∙ ap (set (sizes as') (a - 1)) (length-set (get_or as' (a - 1) []) (c - 1) w ∙ sym (get_or_length as' (a - 1)))
    ∙ set-get_or (sizes as') (a - 1) 0

pub all_canonical : (as' : List (List ℕ)) (ss : List Stated) → AllByRecursion (Taken as') ss → AllValid canonical (map as_rule ss)
all_canonical as' [] h = tt
all_canonical as' (s ∷ ss) h = (rule_canonical s.head s.body (judged_free (sizes as') s.head s.body h.0).short, all_canonical as' ss h.1)

-- the calls on a model
module _ (j : Journal) (m n : Model) (s : Suppositions) (g : Agrees j m s) (r : Result (Unit {0}) Refusal) where
  same_model : (c : Call) → feed j c false ≡ j → (f : Refusal) → n ≡ m → Agrees (feed j c false) n s
  same_model c stays f is = subst (λ k. Agrees k n s) (sym stays) (subst (λ (x : Model). Agrees j x s) (sym is) g)

  pub agrees_declares : (weights : List ℕ) → outcome r (alternatives n) ≡ declaring (alternatives m) weights → rules n ≡ rules m → IfErr r (λ _. n ≡ m) → Agrees (feed j (declares weights) (is_ok r)) n s
  agrees_declares weights is same refused = go r is refused
    where
      go : (r : Result (Unit {0}) Refusal) → outcome r (alternatives n) ≡ declaring (alternatives m) weights → IfErr r (λ _. n ≡ m) → Agrees (feed j (declares weights) (is_ok r)) n s
      go (Err f) h k = same_model (declares weights) refl f k
      go (Ok u) h k = record {
        declared = declared_ok (alternatives m) (alternatives n) weights h ∙ ap (λ as'. as' ++ (weights ∷ [])) g.declared;
        taken = All-weaker (Taken j.declared) (Taken (j.declared ++ (weights ∷ []))) (taken_wider j.declared (j.declared ++ (weights ∷ [])) (subst (Wider (sizes j.declared)) (sym (map_push length j.declared weights)) (one_wider (sizes j.declared) (length weights)))) j.stated g.taken;
        held = subst (Minimals rule_below rule_before (map as_rule j.stated)) (sym same) g.held;
        supposed = g.supposed;
      }

  pub agrees_weighs : (a c w : ℕ) → outcome r (alternatives n) ≡ weighing (alternatives m) a c w → rules n ≡ rules m → IfErr r (λ _. n ≡ m) → Agrees (feed j (weighs a c w) (is_ok r)) n s
  agrees_weighs a c w is same refused = go r is refused
    where
      go : (r : Result (Unit {0}) Refusal) → outcome r (alternatives n) ≡ weighing (alternatives m) a c w → IfErr r (λ _. n ≡ m) → Agrees (feed j (weighs a c w) (is_ok r)) n s
      go (Err f) h k = same_model (weighs a c w) refl f k
      go (Ok u) h k = record {
        declared = weighed_ok (alternatives m) (alternatives n) a c w h ∙ ap (λ as'. reweighing as' a c w) g.declared;
        taken = All-weaker (Taken j.declared) (Taken (reweighing j.declared a c w)) (λ t h. ap (λ ns. judge_rule ns t.head t.body) (reweighed_sizes j.declared a c w) ∙ h) j.stated g.taken;
        held = subst (Minimals rule_below rule_before (map as_rule j.stated)) (sym same) g.held;
        supposed = g.supposed;
      }

  pub agrees_states : (head : ℕ) (body : List Literal) → outcome r (rules n) ≡ stating (alternatives m) (rules m) head body → alternatives n ≡ alternatives m → IfErr r (λ _. n ≡ m) → Agrees (feed j (states head body) (is_ok r)) n s
  agrees_states head body is same refused = go r is refused
    where
      go : (r : Result (Unit {0}) Refusal) → outcome r (rules n) ≡ stating (alternatives m) (rules m) head body → IfErr r (λ _. n ≡ m) → Agrees (feed j (states head body) (is_ok r)) n s
      go (Err f) h k = same_model (states head body) refl f k
      go (Ok u) h k =
          let ok = stated_ok (alternatives m) (rules m) (rules n) head body h in
          let free : judge_rule (sizes j.declared) head body ≡ None = ap (λ as'. judge_rule (sizes as') head body) (sym g.declared) ∙ ok.0 in
          let new : Stated = record { head = head; body = body } in
          let valid = rule_canonical head body (judged_free (sizes j.declared) head body free).short in
          record {
            declared = same ∙ g.declared;
            taken = All-push (Taken j.declared) j.stated new g.taken free;
            held = subst (λ (xs : List Rule). Minimals rule_below rule_before xs (rules n)) (sym (map_push as_rule j.stated new))
                (minimals_push rule_orders 128 (map as_rule j.stated) (rules m) (rule_of head body) (rules n) (all_canonical j.declared j.stated g.taken) valid g.held ok.1);
            supposed = g.supposed;
          }

-- the calls on suppositions
pub agrees_fresh : (m : Model) (s : Suppositions) → s.choices ≡ replicate 16 0 → alternatives m ≡ [] → rules m ≡ [] → Agrees fresh m s
agrees_fresh m s none no-alternative no_rule = record {
  declared = no-alternative;
  taken = tt;
  held = subst (Minimals rule_below rule_before []) (sym no_rule) (record { members = λ e. (λ k. absurd k, λ k. k.0); once = tt; ascending = tt });
  supposed = none;
}
