-- Where a journal agrees with a session, the answers of the session are as the journal says.
use Rattle.std.proofs.Common.{◌≡◌, ℕ, Bool, true, List, [], map, length, is_ok, Ok, Err, Result, sym, refl, ap, ◌∙◌, subst, arith}
use Rattle.rows.proofs.Kept.{run_minimal, ascending_same}
use Rattle.rows.proofs.Members.{all_among}
use Rattle.rows.proofs.Pushes.{kept_all_some}
use Rattle.model.specs.declared.literal.Literal.{Literal}
use Rattle.model.specs.declared.model.Model.{Model}
use Rattle.model.specs.declared.refusal.Refusal.{Refusal}
use Rattle.model.specs.declared.rule.Rule.{Rule}
use Rattle.model.specs.declared.suppositions.Suppositions.{Suppositions}
use Rattle.model.specs.Journal as journal
use Rattle.model.specs.Journal.{Journal, declares, weighs, states, feed, as_rule, Agrees}
use Rattle.model.specs.Models.{alternatives, rules, declaring, weighing, stating, outcome}
use Rattle.model.specs.Rules.{rule_below, rule_before, canonical, listing}
use Rattle.model.specs.Laws.{rule_orders}
use Rattle.model.proofs.Journals.{all_canonical}
use Rattle.session.specs.Running.{answered}
use Rattle.session.specs.Sessions.{kept_rules, accepts}

-- the held rules are those that the journal says, since there is one list of minimal ones in order
pub held_kept : (j : Journal) (m : Model) (s : Suppositions) → Agrees j m s → rules m ≡ kept_rules (map as_rule j.stated)
held_kept j m s g =
    let xs = map as_rule j.stated in
    let valid = all_canonical j.declared j.stated g.taken in
    let some = kept_all_some rule_below rule_before (length xs) xs [] (omega arith) in
    let run = run_minimal rule_orders (length xs) xs some.0 valid some.1 in
    ascending_same rule_orders (rules m) some.0 (λ e k. all_among (λ r. canonical r ≡ true) xs valid e ((g.held.members e).0 k).0) g.held.ascending run.ascending (λ e. (λ k. (run.members e).1 ((g.held.members e).0 k), λ k. (g.held.members e).1 ((run.members e).0 k)))
    ∙ sym (ap listing some.1)

outcome_ok : {X : Type 0} (r : Result (Unit {0}) Refusal) (x : X) → is_ok r ≡ is_ok (outcome r x)
outcome_ok (Ok u) x = refl
outcome_ok (Err f) x = refl

-- a call on a model m was answered b, and left n, as every journal that agrees says
abbrev Answers : Model → Model → Suppositions → Bool → journal.Call → Type 0
Answers m n s b call = ((j : Journal) → Agrees j m s → b ≡ accepts j call) × ((j : Journal) → Agrees j m s → Agrees (answered j call) n s)

-- the calls that change a model
module _ {m n : Model} {b : Bool} {call : journal.Call} (s : Suppositions) (r : Result (Unit {0}) Refusal) (ok : b ≡ is_ok r) where
  answers : (made : journal.Call) → call ≡ made → ((j : Journal) → answered j made ≡ feed j made (accepts j made)) → ((j : Journal) → Agrees j m s → is_ok r ≡ accepts j made)
      → ((j : Journal) (s : Suppositions) → Agrees j m s → Agrees (feed j made (is_ok r)) n s) → Answers m n s b call
  answers made is fed as_said agrees = (
    λ j g. ok ∙ as_said j g ∙ ap (accepts j) (sym is),
    λ j g. subst (λ k. Agrees (answered j k) n s) (sym is) (subst (λ k. Agrees k n s) (sym (fed j)) (subst (λ (a : Bool). Agrees (feed j made a) n s) (as_said j g) (agrees j s g))),
  )

  pub answers_declares : {weights : List ℕ} → call ≡ declares weights → outcome r (alternatives n) ≡ declaring (alternatives m) weights → ((j : Journal) (s : Suppositions) → Agrees j m s → Agrees (feed j (declares weights) (is_ok r)) n s) → Answers m n s b call
  answers_declares {weights} is defined = answers (declares weights) is (λ j. refl) (λ j g. outcome_ok r (alternatives n) ∙ ap is_ok defined ∙ ap (λ as'. is_ok (declaring as' weights)) g.declared)

  pub answers_weighs : {a c w : ℕ} → call ≡ weighs a c w → outcome r (alternatives n) ≡ weighing (alternatives m) a c w → ((j : Journal) (s : Suppositions) → Agrees j m s → Agrees (feed j (weighs a c w) (is_ok r)) n s) → Answers m n s b call
  answers_weighs {a} {c} {w} is defined = answers (weighs a c w) is (λ j. refl) (λ j g. outcome_ok r (alternatives n) ∙ ap is_ok defined ∙ ap (λ as'. is_ok (weighing as' a c w)) g.declared)

  pub answers_states : {head : ℕ} {body : List Literal} → call ≡ states head body → outcome r (rules n) ≡ stating (alternatives m) (rules m) head body → ((j : Journal) (s : Suppositions) → Agrees j m s → Agrees (feed j (states head body) (is_ok r)) n s) → Answers m n s b call
  answers_states {head} {body} is defined =
      answers (states head body) is (λ j. refl)
      (λ j g. outcome_ok r (rules n) ∙ ap is_ok defined ∙ ap (λ as'. is_ok (stating as' (rules m) head body)) g.declared ∙ ap (λ (rs : List Rule). is_ok (stating j.declared rs head body)) (held_kept j m s g))
