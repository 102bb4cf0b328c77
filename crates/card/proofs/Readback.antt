-- A card that was written is read back as what was written.
use Rattle.std.proofs.Common.{◌≡◌, ℕ, ◌+◌, ◌/◌, ◌%◌, ◌^◌, ◌<◌, ◌≤◌, true, List, [], ◌∷◌, ◌++◌, map, length, take, Some, None, Ok, Option, Result, sym, refl, ap, ◌∙◌, add-zero, arith}
use native.Mathlib.Nat.{div-add-mod, div-div-eq-div-mul}
use Rattle.std.specs.List.{flat_map, AllByRecursion}
use Rattle.std.proofs.ByRecursion.{All-append, All-map, All-weaker}
use Rattle.std.proofs.lemmas.List.{append_assoc, append-nil, length-append, length-take-le}
use Rattle.std.proofs.lemmas.Bool.{and_from, eq-eqb}
use Rattle.rows.specs.Keeping.{and_then, kept, kept_all}
use Rattle.rows.proofs.Pushes.{kept_all_some}
use Rattle.model.specs.declared.literal.Literal.{Literal}
use Rattle.model.specs.declared.model.Model.{Model}
use Rattle.model.specs.declared.rule.Rule.{Rule}
use Rattle.model.specs.Holding.{sound_rules}
use Rattle.model.specs.Judging.{judge_rule}
use Rattle.model.specs.Models.{alternatives, rules, sizes, declaring, put_answer, judged, stating}
use Rattle.model.specs.Rules as model
use Rattle.model.specs.Rules.{canonical, rule_of, as_set, subset, listing, rule_below, rule_before}
use Rattle.model.proofs.Declares.{declaring_more, alternatives_count}
use Rattle.model.proofs.Determined.{held_same}
use Rattle.model.specs.Laws.{alike_same, subset_from, canonical_is, rule_orders}
use Rattle.model.proofs.Soundness.{all_taken}
use Rattle.model.proofs.States.{set_minimal, rule_literals, rule_canonical}
use Rattle.model.proofs.Tables.{sizes_same}
use Rattle.card.specs.declared.fault.Fault.{Fault}
use Rattle.card.specs.Encoding.{Entry, alternative, end, encoding, Framed, value}
use Rattle.card.specs.Loading.{Held, weights, literals, declared_held, stated_held, onto, none, holding, loaded_from, loaded}
use Rattle.card.specs.Storing.{weight_bytes, literal_bytes, alternative_entry, rule_entry, records, stored, Fit, ReadsBack}
use Rattle.card.specs.Walking.{Walk, walked, Closed, Whole}
use Rattle.card.proofs.Stores.{Choices, Short, weights_size, literals_size, model_choices, model_canonical, model_short}
use Rattle.card.proofs.Walks.{whole_walked}

pub weight_back : (n : ℕ) → n < 2 ^ 32 → value (weight_bytes n) ≡ n
weight_back n h =
    let two = div-div-eq-div-mul n 256 256 in
    let three = div-div-eq-div-mul n (256 ^ 2) 256 in
    let low = div-add-mod n 256 in
    let next = div-add-mod (n / 256) 256 in
    let third = div-add-mod (n / (256 ^ 2)) 256 in
    let top : n / (256 ^ 3) < 256 = omega arith in
    let last : n / (256 ^ 3) % 256 ≡ n / (256 ^ 3) = omega arith in
    omega arith

pub weights_back : (ws : List ℕ) → AllByRecursion (λ w. w < 2 ^ 32) ws → weights (flat_map weight_bytes ws) ≡ ws
weights_back [] h = refl
weights_back (w ∷ ws) h =
    let first = weight_back w h.0 in
    let rest = weights_back ws h.1 in
    ap (λ v. v ∷ weights (flat_map weight_bytes ws)) first ∙ ap (λ vs. w ∷ vs) rest

pub literals_back : (ls : List Literal) → literals (flat_map literal_bytes ls) ≡ ls
literals_back [] = refl
literals_back (l ∷ ls) = ap (λ ms. l ∷ ms) (literals_back ls)

-- the records are framed, and the end record stands last
pub alternative_framed : (ws : List ℕ) → Choices ws → Framed (alternative_entry ws)
alternative_framed ws h = (length ws, h.0, h.1, weights_size ws)

pub rule_framed : (r : Rule) → Short r → Framed (rule_entry r)
rule_framed r h = (length (model.literals r), h, literals_size (model.literals r))

rules_closed : (rs : List Rule) → Closed (map rule_entry rs ++ (end ∷ []))
rules_closed [] = refl
rules_closed (r ∷ rs) = rules_closed rs

all_closed : (as' : List (List ℕ)) (rs : List Rule) → Closed (map alternative_entry as' ++ (map rule_entry rs ++ (end ∷ [])))
all_closed [] rs = rules_closed rs
all_closed (ws ∷ as') rs = all_closed as' rs

pub stored_whole : (m : Model) → Whole (stored m) (records m)
stored_whole m = record {
  framed = All-append Framed (map alternative_entry (alternatives m)) (map rule_entry (rules m) ++ (end ∷ []))
      (All-map Framed alternative_entry (alternatives m) (All-weaker Choices (λ ws. Framed (alternative_entry ws)) alternative_framed (alternatives m) (model_choices m)))
      (All-append Framed (map rule_entry (rules m)) (end ∷ []) (All-map Framed rule_entry (rules m) (All-weaker Short (λ r. Framed (rule_entry r)) rule_framed (rules m) (model_short m))) (tt, tt));
  closed = all_closed (alternatives m) (rules m);
  bytes = refl;
}

pub stored_walked : (m : Model) → walked (stored m) ≡ record { records = records m; fault = None }
stored_walked m = whole_walked (stored m) (records m) (stored_whole m)

-- alternatives that are written are declared again, one after the other
pub alternatives_back : (at : ℕ) (before as' : List (List ℕ)) (es : List Entry) (fault : Option Fault) → AllByRecursion Choices as' → AllByRecursion Fit as' → length before + length as' ≤ 16
    → loaded_from at (record { alternatives = before; rules = [] }) (map alternative_entry as' ++ es) fault
    ≡ loaded_from (at + length (flat_map encoding (map alternative_entry as'))) (record { alternatives = before ++ as'; rules = [] }) es fault
alternatives_back at before [] es fault choices fit room =
    ap (λ n. loaded_from n (record { alternatives = before; rules = [] }) es fault) (sym (add-zero at))
    ∙ ap (λ as''. loaded_from (at + 0) (record { alternatives = as''; rules = [] }) es fault) (sym (append-nil before))
alternatives_back at before (ws ∷ as') es fault choices fit room =
    let bytes = flat_map weight_bytes ws in
    let size = length (encoding (alternative bytes)) in
    let told : declaring before (weights bytes) ≡ Ok (before ++ (ws ∷ [])) = ap (declaring before) (weights_back ws fit.0) ∙ sym (declaring_more before ws choices.0.0 choices.0.1 (omega arith)) in
    let longer = length-append before (ws ∷ []) in
    let rest = alternatives_back (at + size) (before ++ (ws ∷ [])) as' es fault choices.1 fit.1 (omega arith) in
    let both = length-append (encoding (alternative bytes)) (flat_map encoding (map alternative_entry as')) in
    let on : at + size + length (flat_map encoding (map alternative_entry as')) ≡ at + length (flat_map encoding (map alternative_entry (ws ∷ as'))) = omega arith in
    ap (λ o. onto at (declared_held o []) (λ next. loaded_from (at + size) next (map alternative_entry as' ++ es) fault)) told ∙ rest
    ∙ ap (λ n. loaded_from n (record { alternatives = (before ++ (ws ∷ [])) ++ as'; rules = [] }) es fault) on
    ∙ ap (λ as''. loaded_from (at + length (flat_map encoding (map alternative_entry (ws ∷ as')))) (record { alternatives = as''; rules = [] }) es fault) (append_assoc before (ws ∷ []) as')

-- so a model's card is loaded as its alternatives, and what its rules make of them
pub stored_loaded : (m : Model) → AllByRecursion Fit (alternatives m)
    → loaded (stored m) ≡ loaded_from (length (flat_map encoding (map alternative_entry (alternatives m)))) (record { alternatives = alternatives m; rules = [] }) (map rule_entry (rules m) ++ (end ∷ [])) None
stored_loaded m fit =
    let few = alternatives_count m.alternatives m.declared (omega (arith, m.few, m.places)) in
    let size = length (flat_map encoding (map alternative_entry (alternatives m))) in
    let from_zero : 0 + size ≡ size = omega arith in
    ap (λ (w : Walk). loaded_from 0 none w.records w.fault) (stored_walked m)
    ∙ alternatives_back 0 [] (alternatives m) (map rule_entry (rules m) ++ (end ∷ [])) None (model_choices m) fit (omega (arith, m.few))
    ∙ ap (λ n. loaded_from n (record { alternatives = alternatives m; rules = [] }) (map rule_entry (rules m) ++ (end ∷ [])) None) from_zero

-- a rule as it is held, stated again, is the same rule
pub rule_back : (r : Rule) → canonical r ≡ true → rule_of r.head (model.literals r) ≡ r
rule_back r h =
    let ls = model.literals r in
    let c = canonical_is r h in
    let short : length ls ≤ 8 = omega (arith, c.few, c.counted) in
    let s = rule_of r.head ls in
    let least = set_minimal r.head ls short in
    let same_head = eq-eqb r.head r.head refl in
    let is = rule_literals r.head ls short in
    let under : subset (model.literals s) ls ≡ true = ap (λ (ms : List Literal). subset ms ls) is ∙ subset_from (as_set ls) ls (λ l k. ((least.members l).0 k).0) in
    let over : subset ls (model.literals s) ≡ true = ap (subset ls) is ∙ subset_from ls (as_set ls) (λ l k. (least.members l).1 (k, λ n m b. alike_same n l b)) in
    rule_orders.same s r (rule_canonical r.head ls short) h (and_from _ _ same_head under) (and_from _ _ same_head over)

same_held : (o : Result Held Fault) (h k : Held) → o ≡ Ok h → o ≡ Ok k → h ≡ k
same_held o h k p q = cc

-- a put that was not refused is a call that was accepted
onto_put : (at : ℕ) (as' : List (List ℕ)) (o : Option (List Rule)) (puts : List Rule → Option (List Rule)) (calls : Held → Result Held Fault) (after : List Rule)
    → ((rs : List Rule) → puts rs ≡ Some after → calls (record { alternatives = as'; rules = rs }) ≡ Ok (record { alternatives = as'; rules = after }))
    → and_then o puts ≡ Some after → onto at (stated_held as' (put_answer o)) calls ≡ Ok (record { alternatives = as'; rules = after })
onto_put at as' (Some rs) puts calls after rest run = rest rs run
onto_put at as' None puts calls after rest run = cc

pub rules_stated : (at : ℕ) (as' : List (List ℕ)) (rs before after : List Rule) → AllByRecursion (λ r. judge_rule (sizes as') r.head (model.literals r) ≡ None) rs → AllByRecursion (λ r. canonical r ≡ true) rs
    → kept_all rule_below rule_before 128 before rs ≡ Some after
    → loaded_from at (record { alternatives = as'; rules = before }) (map rule_entry rs ++ (end ∷ [])) None ≡ Ok (record { alternatives = as'; rules = after })
rules_stated at as' [] before after free canon run = ap (λ rs. Ok (record { alternatives = as'; rules = listing rs })) run
rules_stated at as' (r ∷ rs) before after free canon run =
    let bytes = flat_map literal_bytes (model.literals r) in
    let on = at + length (encoding (rule_entry r)) in
    let calls : Held → Result Held Fault = λ next. loaded_from on next (map rule_entry rs ++ (end ∷ [])) None in
    let told : stating as' before r.head (literals bytes) ≡ put_answer (kept rule_below rule_before 128 before r) =
    ap (stating as' before r.head) (literals_back (model.literals r))
    ∙ ap (λ o. judged o (put_answer (kept rule_below rule_before 128 before (rule_of r.head (model.literals r))))) free.0
    ∙ ap (λ (s : Rule). put_answer (kept rule_below rule_before 128 before s)) (rule_back r canon.0) in
    ap (λ o. onto at (stated_held as' o) calls) told
    ∙ onto_put at as' (kept rule_below rule_before 128 before r) (λ zs. kept_all rule_below rule_before 128 zs rs) calls after (λ zs h. rules_stated on as' rs zs after free.1 canon.1 h) run

-- so the card of a model is accepted, and what it is loaded into holds the same
module _ (m : Model) where
  rules_free : AllByRecursion (λ r. judge_rule (sizes (alternatives m)) r.head (model.literals r) ≡ None) (rules m)
  rules_free =
      let same = sizes_same (take m.declared m.alternatives) m.canonical in
      all_taken (sizes (alternatives m)) (rules m) (ap (λ ns. sound_rules ns (rules m)) same ∙ m.sound)

  rules_settled : kept_all rule_below rule_before 128 [] (rules m) ≡ Some (rules m)
  rules_settled =
      let few = length-take-le m.held m.rules (omega (arith, m.within, m.shelves)) in
      let some = kept_all_some rule_below rule_before 128 (rules m) [] (omega (arith, m.within)) in
      some.1 ∙ ap Some (ap listing (sym some.1) ∙ m.minimal)

  pub reads_back : AllByRecursion Fit (alternatives m) → ReadsBack m
  reads_back fit =
      let is : loaded (stored m) ≡ Ok (holding m) = stored_loaded m fit ∙ rules_stated _ (alternatives m) (rules m) [] (rules m) rules_free (model_canonical m) rules_settled in
      record {
        accepted = is;
        same = λ n h. let e = same_held (loaded (stored m)) (holding n) (holding m) h is in held_same n m (ap (λ (x : Held). x.alternatives) e) (ap (λ (x : Held). x.rules) e);
        again = λ n h. let e = same_held (loaded (stored m)) (holding n) (holding m) h is in ap (λ (x : Held). flat_map encoding (map alternative_entry x.alternatives ++ (map rule_entry x.rules ++ (end ∷ [])))) e;
      }
