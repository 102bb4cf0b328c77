-- The calls that records make.
use Rattle.std.proofs.Common.{◌≡◌, ℕ, ◌+◌, ◌-◌, ◌<◌, ◌≤◌, true, List, [], ◌∷◌, length, is_ok, IfOk, OnOk, Some, None, Ok, Err, Option, Result, sym, refl, ap, ◌∙◌, subst, arith}
use Rattle.std.proofs.lemmas.Bool.{false≢true}
use Rattle.model.specs.declared.literal.Literal.{Literal}
use Rattle.model.specs.declared.model.Model.{Model}
use Rattle.model.specs.declared.refusal.Refusal.{Refusal}
use Rattle.model.specs.declared.suppositions.Suppositions.{Suppositions}
use Rattle.model.specs.Journal.{Journal, Agrees, feed, declares, states}
use Rattle.card.specs.declared.fault.Fault.{Fault}
use Rattle.card.specs.Encoding.{Entry, alternative, rule, end, encoding}
use Rattle.card.specs.declared.reader.Record.{Record}
use Rattle.card.specs.declared.reader.Record.TheVariants.{Alternative, Rule, End}
use Rattle.card.specs.Reading.{step, entry}
use Rattle.card.specs.Loading.{Held, weights, literals, taking, holding, told_held, recorded, onto, loaded_from}
use Rattle.card.specs.Walking.{Walk, walked, onward, preceded, Open, Whole}
use Rattle.card.proofs.Framing.{step_fits, encoding_some}
use Rattle.card.proofs.Walks.{walk_at, walk_on, Lawful, walked_lawful}

module _ (r : Result (Unit {0}) Refusal) (m n : Model) (bytes : List ℕ) where
  pub took_declares : (j : Journal) (s : Suppositions) (ws : List ℕ) → ws ≡ weights bytes → Agrees (feed j (declares ws) (is_ok r)) n s → IfOk r (λ _. Agrees (recorded j (alternative bytes ∷ [])) n s)
  took_declares j s ws is g = go r (subst (λ vs. Agrees (feed j (declares vs) (is_ok r)) n s) is g)
    where
      go : (r : Result (Unit {0}) Refusal) → Agrees (feed j (declares (weights bytes)) (is_ok r)) n s → IfOk r (λ _. Agrees (recorded j (alternative bytes ∷ [])) n s)
      go (Ok u) k = k
      go (Err f) k = tt

  pub took_states : (j : Journal) (s : Suppositions) (head : ℕ) (ls : List Literal) → ls ≡ literals bytes → Agrees (feed j (states head ls) (is_ok r)) n s → IfOk r (λ _. Agrees (recorded j (rule head bytes ∷ [])) n s)
  took_states j s head ls is g = go r (subst (λ (ms : List Literal). Agrees (feed j (states head ms) (is_ok r)) n s) is g)
    where
      go : (r : Result (Unit {0}) Refusal) → Agrees (feed j (states head (literals bytes)) (is_ok r)) n s → IfOk r (λ _. Agrees (recorded j (rule head bytes ∷ [])) n s)
      go (Ok u) k = k
      go (Err f) k = tt

-- a reader over the card has come to an offset: the records from there on make of the model what all make of the first one
pub record Coming (card : List ℕ) (first : Model) (seen : List ℕ) (at : ℕ) (m : Model) : Type 0 where
  pub same : seen ≡ card
  pub inside : at ≤ length card
  pub rest : loaded_from at (holding m) (walk_at card at).records (walk_at card at).fault ≡ loaded_from 0 (holding first) (walked card).records (walked card).fault
  pub journal : (j : Journal) (s : Suppositions) → Agrees j first s → (k : Journal) × Agrees k m s × (recorded k (walk_at card at).records ≡ recorded j (walked card).records)

recorded_next : (k : Journal) (e : Entry) (es : List Entry) → recorded k (e ∷ es) ≡ recorded (recorded k (e ∷ [])) es
recorded_next k (alternative bytes) es = refl
recorded_next k (rule head bytes) es = refl
recorded_next k end es = refl

-- a record that is not the end record stands before those that follow it
onward_more : (e : Entry) (go : ℕ → Walk) → Open (e ∷ []) → onward (Ok e) go ≡ preceded e (go (length (encoding e)))
onward_more (alternative bytes) go more = refl
onward_more (rule head bytes) go more = refl
onward_more end go more = absurd more

abbrev from_here : ℕ → Model → Walk → Result Held Fault
from_here at m w = loaded_from at (holding m) w.records w.fault

module _ (card : List ℕ) (first : Model) (seen : List ℕ) (at : ℕ) (m : Model) (c : Coming card first seen at m) where
  here : (r : Result Entry Fault) → r ≡ step seen at → walk_at card at ≡ onward r (λ s. walk_at card (at + s))
  here r is = walk_on card at r (is ∙ ap (λ bs. step bs at) c.same)

  pub coming_end : Ok end ≡ step seen at → Ok (holding m) ≡ from_here 0 first (walked card)
  coming_end is = sym (ap (from_here at m) (here (Ok end) is)) ∙ c.rest

  pub coming_end_journal : Ok end ≡ step seen at → (j : Journal) (s : Suppositions) → Agrees j first s → Agrees (recorded j (walked card).records) m s
  coming_end_journal is j s g =
      let k = c.journal j s g in
      subst (λ x. Agrees x m s) (sym (ap (λ w. recorded k.0 w.records) (here (Ok end) is)) ∙ k.2) k.1

  -- another record is read
  module _ (e : Entry) (is : Ok e ≡ step seen at) (more : Open (e ∷ [])) where
    after : walk_at card at ≡ preceded e (walk_at card (at + length (encoding e)))
    after = here (Ok e) is ∙ onward_more e (λ s. walk_at card (at + s)) more

    coming_more : (n : Model) (seen' : List ℕ) (at' : ℕ) → seen' ≡ seen → at' ≡ at + length (encoding e) → Ok (holding n) ≡ taking (holding m) e
        → ((j : Journal) (s : Suppositions) → Agrees j m s → Agrees (recorded j (e ∷ [])) n s) → Coming card first seen' at' n × (length card - at' < length card - at)
    coming_more n seen' at' as_before moved took keeps =
        let fits = step_fits card at e (ap (λ bs. step bs at) (sym c.same) ∙ sym is) in
        let some = encoding_some e in
        let w = walk_at card (at + length (encoding e)) in (
          record {
            same = as_before ∙ c.same;
            inside = omega arith;
            rest = rw moved (ap (λ o. onto at o (λ next. loaded_from (at + length (encoding e)) next w.records w.fault)) took ∙ sym (ap (from_here at m) after) ∙ c.rest);
            journal = λ j s g.
                let k = c.journal j s g in
                (recorded k.0 (e ∷ []), keeps k.0 s k.1, rw moved (sym (recorded_next k.0 e w.records) ∙ sym (ap (λ v. recorded k.0 v.records) after) ∙ k.2));
          },
          omega arith,
        )

    -- and taken
    pub coming_on : (r : Result (Unit {0}) Refusal) → is_ok r ≡ true → (n : Model) (seen' : List ℕ) (at' : ℕ) → seen' ≡ seen → at' ≡ at + length (encoding e) → told_held r n ≡ taking (holding m) e
        → ((j : Journal) (s : Suppositions) → Agrees j m s → OnOk r (Agrees (recorded j (e ∷ [])) n s)) → Coming card first seen' at' n × (length card - at' < length card - at)
    coming_on (Ok u) ok n seen' at' p q took keeps = coming_more n seen' at' p q took keeps
    coming_on (Err f) ok n seen' at' p q took keeps = absurd (false≢true ok)

pub open_found : (r : Record) → (r ≡ End → ⊥) → Open (entry r ∷ [])
open_found (Alternative weights) h = tt
open_found (Rule head literals) h = tt
open_found End h = absurd (h refl)

-- where a card is accepted, its walk came to the end record
ended_whole : (es : List Entry) (at : ℕ) (h next : Held) (fault : Option Fault) → Ok next ≡ loaded_from at h es fault → fault ≡ None
ended_whole [] at h next None is = refl
ended_whole [] at h next (Some f) is = let z : ◌≡◌ {A = ℕ} 0 1 = cc in absurd (omega arith)
ended_whole (e ∷ es) at h next fault is = go (taking h e) is (λ k. ended_whole es (at + length (encoding e)) k next fault)
  where
    go : (r : Result Held Refusal) → Ok next ≡ onto at r (λ k. loaded_from (at + length (encoding e)) k es fault) → ((k : Held) → Ok next ≡ loaded_from (at + length (encoding e)) k es fault → fault ≡ None) → fault ≡ None
    go (Ok k) told rest = rest k told
    go (Err f) told rest = let z : ◌≡◌ {A = ℕ} 0 1 = cc in absurd (omega arith)

loaded_whole : (card : List ℕ) (first next : Held) → Ok next ≡ loaded_from 0 first (walked card).records (walked card).fault → Whole card (walked card).records
loaded_whole card first next is = subst (Lawful card (walked card).records) (ended_whole (walked card).records 0 first next (walked card).fault is) (walked_lawful card)

pub loaded_law : (card : List ℕ) (first : Held) (r : Result (Unit {0}) Fault) (m : Model) → told_held r m ≡ loaded_from 0 first (walked card).records (walked card).fault → OnOk r (Whole card (walked card).records)
loaded_law card first (Ok u) m is = loaded_whole card first (holding m) is
loaded_law card first (Err f) m is = tt
