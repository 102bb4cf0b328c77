-- A model agrees with the journal of its card's records: so whatever is loaded from its card is the model itself.
use Rattle.std.proofs.Common.{◌≡◌, ℕ, true, List, [], ◌∷◌, ◌++◌, map, take, replicate, sym, refl, ap, ◌∙◌, subst, arith}
use Rattle.std.specs.List.{AllByRecursion}
use Rattle.std.proofs.ByRecursion.{All-map}
use Rattle.std.proofs.lemmas.List.{append_assoc, append-nil, length-take-le}
use Rattle.model.specs.declared.literal.Literal.{Literal}
use Rattle.model.specs.declared.model.Model.{Model}
use Rattle.model.specs.declared.rule.Rule.{Rule}
use Rattle.model.specs.declared.suppositions.Suppositions.{Suppositions}
use Rattle.model.specs.Holding.{sound_rules}
use Rattle.model.specs.Journal.{Stated, Journal, Agrees, Taken, as_rule, fresh}
use Rattle.model.specs.Models.{alternatives, rules, sizes}
use Rattle.model.specs.Rules.{literals, canonical}
use Rattle.model.proofs.Determined.{determined}
use Rattle.model.proofs.Soundness.{all_taken}
use Rattle.model.proofs.States.{held_minimal}
use Rattle.model.proofs.Tables.{sizes_same}
use Rattle.card.specs.Encoding.{Entry, end}
use Rattle.card.specs.Loading.{recorded}
use Rattle.card.specs.Storing.{alternative_entry, rule_entry, records, stored, Fit}
use Rattle.card.specs.Walking.{Walk, walked}
use Rattle.card.proofs.Readback.{weights_back, literals_back, rule_back, stored_walked}
use Rattle.card.proofs.Stores.{model_canonical}

-- a held rule, as it is stated
abbrev pub as_stated : Rule → Stated
as_stated r = record { head = r.head; body = literals r }

-- the journal that declares a model's alternatives and states its rules
abbrev pub journal_of : Model → Journal
journal_of m = record { declared = alternatives m; stated = map as_stated (rules m); supposed = replicate 16 0; notes = [] }

journal_same : (j : Journal) (as' : List (List ℕ)) (ss : List Stated) → j.declared ≡ as' → j.stated ≡ ss → j ≡ record { declared = as'; stated = ss; supposed = j.supposed; notes = j.notes }
journal_same j as' ss p q = λ i. record { declared = p i; stated = q i; supposed = j.supposed; notes = j.notes }

declares_recorded : (j : Journal) (as' : List (List ℕ)) (es : List Entry) → AllByRecursion Fit as'
    → recorded j (map alternative_entry as' ++ es) ≡ recorded (record { declared = j.declared ++ as'; stated = j.stated; supposed = j.supposed; notes = j.notes }) es
declares_recorded j [] es fit = ap (λ (k : Journal). recorded k es) (journal_same j _ _ (sym (append-nil j.declared)) refl)
declares_recorded j (ws ∷ as') es fit =
    let with : List (List ℕ) → Journal = λ ds. record { declared = ds; stated = j.stated; supposed = j.supposed; notes = j.notes } in
    ap (λ vs. recorded (with (j.declared ++ (vs ∷ []))) (map alternative_entry as' ++ es)) (weights_back ws fit.0)
    ∙ declares_recorded (with (j.declared ++ (ws ∷ []))) as' es fit.1
    ∙ ap (λ ds. recorded (with ds) es) (append_assoc j.declared (ws ∷ []) as')

states_recorded : (j : Journal) (rs : List Rule) → recorded j (map rule_entry rs ++ (end ∷ [])) ≡ record { declared = j.declared; stated = j.stated ++ map as_stated rs; supposed = j.supposed; notes = j.notes }
states_recorded j [] = journal_same j _ _ refl (sym (append-nil j.stated))
states_recorded j (r ∷ rs) =
    let with : List Stated → Journal = λ ss. record { declared = j.declared; stated = ss; supposed = j.supposed; notes = j.notes } in
    ap (λ (ls : List Literal). recorded (with (j.stated ++ (record { head = r.head; body = ls } ∷ []))) (map rule_entry rs ++ (end ∷ []))) (literals_back (literals r))
    ∙ states_recorded (with (j.stated ++ (as_stated r ∷ []))) rs
    ∙ ap with (append_assoc j.stated (as_stated r ∷ []) (map as_stated rs))

pub records_recorded : (m : Model) → AllByRecursion Fit (alternatives m) → recorded fresh (records m) ≡ journal_of m
records_recorded m fit =
    declares_recorded fresh (alternatives m) (map rule_entry (rules m) ++ (end ∷ [])) fit
    ∙ states_recorded (record { declared = alternatives m; stated = []; supposed = replicate 16 0; notes = [] }) (rules m)

rules_back : (rs : List Rule) → AllByRecursion (λ r. canonical r ≡ true) rs → map as_rule (map as_stated rs) ≡ rs
rules_back [] h = refl
rules_back (r ∷ rs) h = ap (λ (s : Rule). s ∷ map as_rule (map as_stated rs)) (rule_back r h.0) ∙ ap (λ ss. r ∷ ss) (rules_back rs h.1)

module _ (m : Model) (s : Suppositions) (unsupposed : s.choices ≡ replicate 16 0) where
  pub model_agrees : Agrees (journal_of m) m s
  model_agrees =
      let same = sizes_same (take m.declared m.alternatives) m.canonical in
      let sound : sound_rules (sizes (alternatives m)) (rules m) ≡ true = ap (λ ns. sound_rules ns (rules m)) same ∙ m.sound in
      let few = length-take-le m.held m.rules (omega (arith, m.within, m.shelves)) in
      record {
        declared = refl;
        taken = All-map (Taken (alternatives m)) as_stated (rules m) (all_taken (sizes (alternatives m)) (rules m) sound);
        held = rw (rules_back (rules m) (model_canonical m)) (held_minimal (sizes (alternatives m)) (rules m) sound (omega (arith, m.within)) m.minimal);
        supposed = unsupposed;
      }

  -- a model that agrees with the journal of the card of m, as a loaded one does, is m
  pub stored_determines : AllByRecursion Fit (alternatives m) → (n : Model) → Agrees (recorded fresh (walked (stored m)).records) n s → n ≡ m
  stored_determines fit n g =
      let is = ap (λ (w : Walk). recorded fresh w.records) (stored_walked m) ∙ records_recorded m fit in
      (determined (journal_of m) n m s s (subst (λ (j : Journal). Agrees j n s) is g) model_agrees).0
