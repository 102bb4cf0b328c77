-- What a card makes of an empty model, record by record.
use Rattle.std.specs.Prelude.{ℕ, ◌+◌, true, List, [], ◌∷◌, length, Some, None, Ok, Err, Option, Result}
use Rattle.model.specs.declared.literal.Literal.{Literal}
use Rattle.model.specs.declared.model.Model.{Model}
use Rattle.model.specs.declared.refusal.Refusal.{Refusal}
use Rattle.model.specs.declared.rule.Rule.{Rule}
use Rattle.model.specs.Journal.{Journal, declares, states, feed}
use Rattle.model.specs.Models.{alternatives, rules, declaring, stating}
use Rattle.card.specs.declared.fault.Fault.{Fault}
use Rattle.card.specs.declared.fault.Fault.TheVariants.{Refused}
use Rattle.card.specs.Encoding.{Entry, alternative, rule, end, encoding, value}
use Rattle.card.specs.Walking.{walked}

-- the raw weights that bytes mean, four bytes to a weight
abbrev pub weights : List ℕ → List ℕ
weights (a ∷ b ∷ c ∷ d ∷ bytes) = value (a ∷ b ∷ c ∷ d ∷ []) ∷ weights bytes
weights [] = []
weights (a ∷ []) = []
weights (a ∷ b ∷ []) = []
weights (a ∷ b ∷ c ∷ []) = []

-- the literals that bytes mean, three bytes to a literal
abbrev pub literals : List ℕ → List Literal
literals (kind ∷ first ∷ second ∷ bytes) = record { kind = kind; first = first; second = second } ∷ literals bytes
literals [] = []
literals (a ∷ []) = []
literals (a ∷ b ∷ []) = []

-- what a model holds: its alternatives and its rules
pub record Held : Type 0 where
  pub alternatives : List (List ℕ)
  pub rules : List Rule

abbrev pub none : Held
none = record { alternatives = []; rules = [] }

abbrev pub declared_held : Result (List (List ℕ)) Refusal → List Rule → Result Held Refusal
declared_held (Ok as') rs = Ok (record { alternatives = as'; rules = rs })
declared_held (Err f) rs = Err f

abbrev pub stated_held : List (List ℕ) → Result (List Rule) Refusal → Result Held Refusal
stated_held as' (Ok rs) = Ok (record { alternatives = as'; rules = rs })
stated_held as' (Err f) = Err f

-- the call that a record makes, and what the model holds after it
abbrev pub taking : Held → Entry → Result Held Refusal
taking h (alternative bytes) = declared_held (declaring h.alternatives (weights bytes)) h.rules
taking h (rule head bytes) = stated_held h.alternatives (stating h.alternatives h.rules head (literals bytes))
taking h end = Ok h

-- the first record that the model refuses counts, and then the fault that stopped the walk
abbrev pub onto : ℕ → Result Held Refusal → (Held → Result Held Fault) → Result Held Fault
onto at (Ok h) rest = rest h
onto at (Err f) rest = Err (Refused at f)

abbrev pub ending : Held → Option Fault → Result Held Fault
ending h None = Ok h
ending h (Some f) = Err f

-- the records, which stand from an offset on, one after the other
abbrev pub loaded_from : ℕ → Held → List Entry → Option Fault → Result Held Fault
loaded_from at h [] fault = ending h fault
loaded_from at h (e ∷ es) fault = onto at (taking h e) (λ next. loaded_from (at + length (encoding e)) next es fault)

-- what an empty model holds once a card is loaded, or why the card is refused
abbrev pub loaded : List ℕ → Result Held Fault
loaded card = loaded_from 0 none (walked card).records (walked card).fault

-- the calls that records make, each accepted
abbrev pub recorded : Journal → List Entry → Journal
recorded j [] = j
recorded j (alternative bytes ∷ es) = recorded (feed j (declares (weights bytes)) true) es
recorded j (rule head bytes ∷ es) = recorded (feed j (states head (literals bytes)) true) es
recorded j (end ∷ es) = recorded j es

-- what a model holds, and what an answer says of it
abbrev pub holding : Model → Held
holding m = record { alternatives = alternatives m; rules = rules m }

abbrev pub told_held : {U E : Type 0} → Result U E → Model → Result Held E
told_held (Ok u) m = Ok (holding m)
told_held (Err f) m = Err f
