-- The steps of a run, each from the place that it has come to.
use Rattle.std.proofs.Common.{◌≡◌, ℕ, ◌+◌, Bool, true, false, List, [], ◌∷◌, map, length, set, refl, sym, ap, ◌∙◌, subst, add-one, arith}
use Rattle.std.specs.declared.iter.Enumerate.{Enumerate}
use Rattle.std.specs.declared.slice.Iter.{Iter}
use Rattle.std.specs.declared.ops.ControlFlow.{ControlFlow}
use Rattle.std.specs.declared.ops.ControlFlow.TheVariants.{Continue, Break}
use Rattle.model.specs.declared.model.Model.{Model}
use Rattle.model.specs.declared.suppositions.Suppositions.{Suppositions}
use Rattle.model.specs.Journal as journal
use Rattle.model.specs.Journal.{Journal, declares, weighs, states, supposes, ends, feed, ended, Agrees}
use Rattle.session.specs.declared.call.Call.{Call}
use Rattle.session.specs.declared.call.Call.TheVariants.{Declare, SetWeight, State, Check, Suppose, End}
use Rattle.session.specs.Running.{answered, flagged, ending, left, place, Leads, Reached, Finished, Ran}
use Rattle.session.specs.Sessions.{called, accepts, acceptances}

-- what a call leaves as it was
declares_notes : (j : Journal) (weights : List ℕ) (b : Bool) → (feed j (declares weights) b).notes ≡ j.notes
declares_notes j weights true = refl
declares_notes j weights false = refl

weighs_notes : (j : Journal) (a c w : ℕ) (b : Bool) → (feed j (weighs a c w) b).notes ≡ j.notes
weighs_notes j a c w true = refl
weighs_notes j a c w false = refl

abbrev next : Journal → journal.Call → Journal
next j call = feed j call (accepts j call)

-- a call that begins no supposing
plain : (j : Journal) (call : Call) → ((a c : ℕ) → call ≡ Suppose a c → ⊥) → (next j (called call) ≡ ending call (answered j (called call))) × ((answered j (called call)).notes ≡ j.notes)
plain j (Declare weights) p = (refl, declares_notes j _ (accepts j (called (Declare weights))))
plain j (SetWeight a c w) p = (refl, weighs_notes j a c w (accepts j (called (SetWeight a c w))))
plain j (State head body) p = (refl, go (accepts j (called (State head body))))
  where
    go : (b : Bool) → (feed j (called (State head body)) b).notes ≡ j.notes
    go true = refl
    go false = refl
plain j (Check a c) p = (refl, refl)
plain j (Suppose a c) p = absurd (p a c refl)
plain j End p = (refl, refl)

-- an end strikes the latest note
ends_notes : (j : Journal) (note : List ℕ) (notes : List (List ℕ)) → j.notes ≡ note ∷ notes → (feed j ends true).notes ≡ notes
ends_notes j note notes h = ap (λ (ns : List (List ℕ)). (ended j ns).notes) h

-- where some calls are made, what is left of them leads on
module _ {j k : Journal} {calls left : List Call} {from at : ℕ} {before behind : List Bool} (p : Leads j k calls left from at before behind) where
  onward : {l : Journal} {last : List Call} {to : ℕ} {beyond : List Bool} → Leads k l left last at to behind beyond → Leads j l calls last from to before beyond
  onward q = record { journal = p.journal ∙ q.journal; flags = p.flags ∙ q.flags }

  over : {last : List Bool} {n : Model} {t : Suppositions} → Finished k left at behind last n t → Finished j calls from before last n t
  over {last} {n} {t} f = record { agrees = subst (λ k. Agrees k n t) (sym p.journal) f.agrees; flags = f.flags ∙ sym p.flags }

module _ {j : Journal} {calls left : List Call} {from at : ℕ} {before behind : List Bool} {m : Model} {s : Suppositions} (r : Reached j (λ k. k) calls left from at before behind m s) where
  -- behind the last call
  pub run_done : length left ≡ 0 → Finished j calls from before behind m s
  run_done none = over r.leads (go left none)
    where
      go : (left : List Call) → length left ≡ 0 → Finished r.here left at behind behind m s
      go [] h = record { agrees = r.agrees; flags = refl }
      go (c ∷ cs) h = absurd (omega (arith, h))

  -- the next call is made
  module _ {call : Call} {rest : List Call} {place : ℕ} {beyond : List Bool} {n : Model} {t : Suppositions} (first : left ≡ call ∷ rest) (there : place ≡ at) where
    pub run_over : ((k : Journal) → Agrees k m s → Finished k (call ∷ rest) place behind beyond n t) → Finished j calls from before beyond n t
    run_over ran = over r.leads (subst (λ cs. Finished r.here cs at behind beyond n t) (sym first) (subst (λ p. Finished r.here (call ∷ rest) p behind beyond n t) there (ran r.here r.agrees)))

    pub run_on : {last : List Call} {to : ℕ} (more : Journal → Journal) → ((k : Journal) → Agrees k m s → Reached k (ending call) (call ∷ rest) last place to behind beyond n t)
        → ((k : Journal) → k.notes ≡ j.notes → ending call k ≡ more k) → Reached j more calls last from to before beyond n t
    run_on {last} {to} more ran fed =
        let f = ran r.here r.agrees in
        let notes = f.notes ∙ r.notes in
        record {
          here = f.here;
          notes = notes;
          agrees = f.agrees;
          leads = subst (λ k. Leads j k calls last from to before beyond) (fed f.here notes) (onward r.leads (subst (λ cs. Leads r.here (ending call f.here) cs last at to behind beyond) (sym first) (subst (λ p. Leads r.here (ending call f.here) (call ∷ rest) last p to behind beyond) there f.leads)));
        }

-- what is fed behind a call that is no end, or an end without a beginning
pub ending_none : (call : Call) (k : Journal) → (call ≡ End → ⊥) → ending call k ≡ k
ending_none (Declare weights) k p = refl
ending_none (SetWeight a c w) k p = refl
ending_none (State head body) k p = refl
ending_none (Check a c) k p = refl
ending_none (Suppose a c) k p = refl
ending_none End k p = absurd (p refl)

pub ending_nothing : (call : Call) (k : Journal) → k.notes ≡ [] → ending call k ≡ k
ending_nothing (Declare weights) k h = refl
ending_nothing (SetWeight a c w) k h = refl
ending_nothing (State head body) k h = refl
ending_nothing (Check a c) k h = refl
ending_nothing (Suppose a c) k h = refl
ending_nothing End k h = ap (ended k) h

-- the journal within a supposing
supposed : Journal → ℕ → ℕ → Journal
supposed j a c = feed j (supposes a c) true

supposed_is : (j : Journal) (a c : ℕ) → feed j (supposes a c) true ≡ supposed j a c
unfolding supposed
supposed_is j a c = refl

supposed_notes : (j : Journal) (a c : ℕ) → (supposed j a c).notes ≡ j.supposed ∷ j.notes
unfolding supposed
supposed_notes j a c = refl

supposed_agrees : {j : Journal} {m n : Model} {s u : Suppositions} {call : Call} {a c : ℕ} → Agrees j m s → ((k : Journal) → Agrees k m s → Agrees (answered k (called call)) n s) → call ≡ Suppose a c
    → ((k : Journal) → Agrees k n s → Agrees (feed k (supposes a c) true) n u) → Agrees (supposed j a c) n u
unfolding supposed
supposed_agrees {j} {m} {n} {s} agrees made is began = began j (subst (λ k. Agrees k n s) (ap (λ (c : Call). answered j (called c)) is) (made j agrees))

-- a call was answered b, and left the model n; and its flag was written
module _ {j : Journal} {m n : Model} {s : Suppositions} {b : Bool} {call : Call} (rest : List Call) (at : ℕ) {to : ℕ} (before : List Bool) {marked : List Bool} (agrees : Agrees j m s) (come : to ≡ at + 1)
    (accepted : (k : Journal) → Agrees k m s → b ≡ accepts k (called call)) (made : (k : Journal) → Agrees k m s → Agrees (answered k (called call)) n s) (mark : marked ≡ set before at b) where
  leads_on : Leads j (next j (called call)) (call ∷ rest) rest at to before marked
  leads_on =
      let news = acceptances (next j (called call)) (map called rest) in
      record {
        journal = refl;
        flags = ap (λ n. flagged (set before at (accepts j (called call))) n news) (sym (come ∙ add-one at)) ∙ ap (λ (fs : List Bool). flagged fs to news) (ap (set before at) (sym (accepted j agrees)) ∙ sym mark);
      }

  -- a call that begins no supposing
  pub run_made : ((a c : ℕ) → call ≡ Suppose a c → ⊥) → Reached j (ending call) (call ∷ rest) rest at to before marked n s
  run_made p =
      let both = plain j call p in
      record {
        here = answered j (called call);
        notes = both.1;
        agrees = made j agrees;
        leads = subst (λ k. Leads j k (call ∷ rest) rest at to before marked) both.0 leads_on;
      }

  -- a begin of a supposing, and what the run within it comes to
  module _ {a c : ℕ} {u : Suppositions} (is : call ≡ Suppose a c) (began : (k : Journal) → Agrees k n s → Agrees (feed k (supposes a c) true) n u) where
    within_leads : Leads j (supposed j a c) (call ∷ rest) rest at to before marked
    within_leads = subst (λ k. Leads j k (call ∷ rest) rest at to before marked) (ap (λ (c : Call). next j (called c)) is ∙ supposed_is j a c) leads_on

    pub run_supposes : (result : ControlFlow Suppositions (Unit {0})) (last : Enumerate (Iter Call)) (beyond : List Bool) (o : Model) {v kept w t : Suppositions} → ((k : Journal) → Agrees k n u → Ran (ending End) result k rest to last marked beyond o v)
        → ((k : Journal) (x : Model) (notes : List (List ℕ)) → k.notes ≡ kept.choices ∷ notes → Agrees k x v → Agrees (feed k ends true) x w) → kept ≡ s → w ≡ t → Ran (ending call) result j (call ∷ rest) at last before beyond o t
    run_supposes (Break _) last beyond o ran dropped before-is same = over within_leads (ran (supposed j a c) (supposed_agrees agrees made is began))
    -- the guard puts back what was supposed before
    run_supposes (Continue _) last beyond o {kept = kept} ran dropped before-is same =
        let f = ran (supposed j a c) (supposed_agrees agrees made is began) in
        let notes : f.here.notes ≡ kept.choices ∷ j.notes = f.notes ∙ supposed_notes j a c ∙ ap (λ ns. ns ∷ j.notes) (sym (ap (λ (x : Suppositions). x.choices) before-is ∙ agrees.supposed)) in
        let here = feed f.here ends true in
        record {
          here = here;
          notes = ends_notes f.here kept.choices j.notes notes;
          agrees = subst (Agrees here o) same (dropped f.here o j.notes notes f.agrees);
          leads = subst (λ k. Leads j k (call ∷ rest) (left last) at (place last) before beyond) (ap (λ (c : Call). ending c here) (sym is)) (onward within_leads f.leads);
        }
