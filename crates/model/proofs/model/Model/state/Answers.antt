use Rattle.std.proofs.Common.{◌≡◌, ◌-◌, ◌≤◌, ◌++◌, List, true, length, take, drop, replicate, Some, None, Ok, Err, Result, OnErr, sym, refl, ap, ◌∙◌, subst, arith, rules as tries}
use Rattle.std.proofs.lemmas.List.{length-append, length-replicate, length-take, length-take-le, take_at, drop_at, drop-drop, drop-replicate}
use Rattle.rows.specs.Keeping.{kept}
use Rattle.model.specs.declared.rule.Rule.{Rule}
use Rattle.model.specs.Holding.{sizes_of, sound_rule, sound_rules}
use Rattle.model.specs.Judging.{judge_rule}
use Rattle.model.specs.Models.{alternatives, rules, sizes}
use Rattle.model.specs.Rules.{rule_below, rule_before, blank_rule, minimal_rules, rule_of}
use Rattle.model.specs.Same.{model_same}
use Rattle.model.proofs.Bodies.{refilled}
use Rattle.model.proofs.Journals.{agrees_states}
use Rattle.model.proofs.States.{Free, judged_free, judged_ok, rule_sound, put_sound, put_minimal, stating_put}
use Rattle.model.proofs.Tables.{sizes_same}
use Rattle.model.proofs.model.Model.state.Goals as goal
use Rattle.model.proofs.model.Model.state.Goals.{In_ok-judge, After-fill}

unmet : (c : In_ok-judge) → judge_rule (sizes (alternatives c.args.self.now)) c.args.head c.args.body.now ≡ None
unmet c = judged_ok (judge_rule (sizes (alternatives c.args.self.now)) c.args.head c.args.body.now) (Ok tt) c.in_ok-judge.field-0 c.in_ok-judge.ensures

free : (c : In_ok-judge) → Free (sizes (alternatives c.args.self.now)) c.args.head c.args.body.now
free c = judged_free (sizes (alternatives c.args.self.now)) c.args.head c.args.body.now (unmet c)

pub new-rule-requires : goal.new-rule-requires
new-rule-requires c = (free (goal.at.new-rule-requires c).In_ok-judge).short

-- what the table of rules holds once the rule was put and the rest made blank
put : (c : After-fill) → c.put.result ≡ Ok c.in_ok-held.held
put c = search tries

put_kept : (c : After-fill) → Some (take c.in_ok-held.held c.put.new.items) ≡ kept rule_below rule_before 128 (rules c.args.self.now) c.new-rule.result
put_kept c = (rw (put c) at c.put.ensures.defined) ∙ ap (λ n. kept rule_below rule_before n (rules c.args.self.now) c.new-rule.result) c.args.self.now.shelves

long : (c : After-fill) → length c.put.new.items ≡ 128
long c = omega (arith, c.args.self.now.shelves)

fits : (c : After-fill) → c.in_ok-held.held ≤ 128
fits c = omega (arith, c.args.self.now.shelves, rw (put c) at c.put.ensures.fits)

still : (c : After-fill) → drop c.max.result c.put.new.items ≡ replicate (128 - c.max.result) blank_rule
still c =
    let m = c.args.self.now in
    let k = c.max.result in
    ap (λ j. drop j c.put.new.items) (omega arith) ∙ (rw (put c) at c.put.ensures.past) ∙ ap (λ j. drop j m.rules) (omega arith) ∙ sym (drop-drop (k - m.held) m.held m.rules) ∙ ap (drop (k - m.held)) m.unheld
    ∙ drop-replicate (k - m.held) (128 - m.held) blank_rule ∙ ap (λ j. replicate j blank_rule) (omega arith)

table : (c : After-fill) → take c.in_ok-held.held c.put.new.items ++ (c.fill.new.self ++ drop (c.max.result - c.in_ok-held.held) (drop c.in_ok-held.held c.put.new.items)) ≡ take c.in_ok-held.held c.put.new.items ++ replicate (128 - c.in_ok-held.held) blank_rule
table c = refilled 128 c.in_ok-held.held c.max.result blank_rule c.put.new.items c.fill.new.self (omega arith) (omega (arith, c.args.self.now.within, fits c)) (long c) (c.fill.ensures.after (λ y is. is)) (still c)

front_long : (c : After-fill) → length (take c.in_ok-held.held c.put.new.items) ≡ c.in_ok-held.held
front_long c = length-take-le c.in_ok-held.held c.put.new.items (omega (arith, fits c, long c))

front : (c : After-fill) → take c.in_ok-held.held (take c.in_ok-held.held c.put.new.items ++ (c.fill.new.self ++ drop (c.max.result - c.in_ok-held.held) (drop c.in_ok-held.held c.put.new.items))) ≡ take c.in_ok-held.held c.put.new.items
front c = ap (take c.in_ok-held.held) (table c) ∙ take_at (take c.in_ok-held.held c.put.new.items) (replicate (128 - c.in_ok-held.held) blank_rule) c.in_ok-held.held (front_long c)

pub invariant_of-self-2 : goal.invariant_of-self-2
invariant_of-self-2 c =
    let m = c.args.self.now in
    let n = c.in_ok-held.held in
    let rs = take m.held m.rules in
    let s = sizes_of (take m.declared m.alternatives) in
    let same : sizes (alternatives m) ≡ s = sizes_same (take m.declared m.alternatives) m.canonical in
    let zs = take n c.put.new.items in
    let past = replicate (128 - n) blank_rule in
    let rule = c.new-rule.result in
    let short : length rs ≤ 128 = omega (arith, length-take m.held m.rules, m.within) in
    let before = (goal.at.invariant_of-self-2 c).In_ok-judge in
    let after = (goal.at.invariant_of-self-2 c).After-fill in
    let new : sound_rule s rule ≡ true = ap (sound_rule s) c.new-rule.ensures ∙ ap (λ t. sound_rule t (rule_of c.args.head c.args.body.now)) (sym same) ∙ rule_sound (sizes (alternatives m)) c.args.head c.args.body.now (free before) in
    record {
      places = m.places;
      few = m.few;
      canonical = m.canonical;
      unused = m.unused;
      shelves = ap length (table after) ∙ length-append zs past ∙ rw length-replicate (omega (arith, front_long after, fits after));
      within = fits after;
      sound = ap (sound_rules s) (front after) ∙ put_sound s rs rule zs m.sound new short m.minimal (sym (put_kept after));
      minimal = subst (λ (ws : List Rule). minimal_rules ws ≡ ws) (sym (front after)) (put_minimal s rs rule zs m.sound new short m.minimal (sym (put_kept after)));
      unheld = ap (drop n) (table after) ∙ drop_at zs past n (front_long after);
    }

pub returns-clause-journal : goal.returns-clause-journal
returns-clause-journal c =
    let m = c.args.self.now in
    let before = (goal.at.returns-clause-journal c).In_ok-judge in
    let after = (goal.at.returns-clause-journal c).After-fill in
    let defined = stating_put (alternatives m) (rules m) c.args.head c.args.body.now c.new-rule.result (Some (take c.in_ok-held.held c.put.new.items)) (unmet before) c.new-rule.ensures (put_kept after) in
    λ j s g. agrees_states j m _ s g (Ok tt) c.args.head c.args.body.now (ap Ok (front after) ∙ defined) refl tt

on_err : {U E : Type 0} (r : Result U E) (P : Type 0) → P → OnErr r P
on_err (Ok u) P p = tt
on_err (Err e) P p = p

pub returns-in_err-held-clause-refused : goal.returns-in_err-held-clause-refused
returns-in_err-held-clause-refused c = on_err _ _ (model_same _ c.args.self.now refl refl refl (search tries))
