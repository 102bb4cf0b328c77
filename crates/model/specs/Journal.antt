-- The journal of a session: what its calls add up to. No code holds it.
use Rattle.std.specs.Prelude.{◌≡◌, ℕ, Bool, true, false, List, [], ◌∷◌, ◌++◌, map, replicate, None}
use Rattle.std.specs.List.{AllByRecursion}
use Rattle.rows.specs.Minimal.{Minimals}
use Rattle.model.specs.declared.literal.Literal.{Literal}
use Rattle.model.specs.declared.model.Model.{Model}
use Rattle.model.specs.declared.rule.Rule.{Rule}
use Rattle.model.specs.declared.suppositions.Suppositions.{Suppositions}
use Rattle.model.specs.Judging.{judge_rule}
use Rattle.model.specs.Models.{alternatives, rules, sizes, reweighing}
use Rattle.model.specs.Rules.{rule_below, rule_before, rule_of}
use Rattle.model.specs.Supposed.{supposing}

-- a rule as it was stated
pub record Stated : Type 0 where
  pub head : ℕ
  pub body : List Literal

-- the alternatives with their raw weights in the order of declaration; every accepted rule, held or not; what is supposed;
-- and what was supposed before each supposing that has not ended, the latest first
pub record Journal : Type 0 where
  pub declared : List (List ℕ)
  pub stated : List Stated
  pub supposed : List ℕ
  pub notes : List (List ℕ)

-- a call of a session, with its arguments
pub data Call : Type 0 where
  declares : (weights : List ℕ) → Call
  weighs : (alternative choice weight : ℕ) → Call
  states : (head : ℕ) (body : List Literal) → Call
  checks : (alternative choice : ℕ) → Call
  supposes : (alternative choice : ℕ) → Call
  ends : Call
  asks : (goal : Literal) → Call

abbrev pub fresh : Journal
fresh = record { declared = []; stated = []; supposed = replicate 16 0; notes = [] }

-- an end puts the latest note back and strikes it; without one it changes nothing
abbrev pub ended : Journal → List (List ℕ) → Journal
ended j [] = j
ended j (note ∷ notes) = record { declared = j.declared; stated = j.stated; supposed = note; notes = notes }

-- the journal after a call that was accepted, or refused. Checks and questions change nothing
abbrev pub feed : Journal → Call → Bool → Journal
feed j (declares weights) true = record { declared = j.declared ++ (weights ∷ []); stated = j.stated; supposed = j.supposed; notes = j.notes }
feed j (declares weights) false = j
feed j (weighs a c w) true = record { declared = reweighing j.declared a c w; stated = j.stated; supposed = j.supposed; notes = j.notes }
feed j (weighs a c w) false = j
feed j (states head body) true = record { declared = j.declared; stated = j.stated ++ (record { head = head; body = body } ∷ []); supposed = j.supposed; notes = j.notes }
feed j (states head body) false = j
feed j (checks a c) accepted = j
feed j (supposes a c) accepted = record { declared = j.declared; stated = j.stated; supposed = supposing j.declared j.supposed a c; notes = j.supposed ∷ j.notes }
feed j ends accepted = ended j j.notes
feed j (asks goal) accepted = j

-- a stated rule, its body as a set
abbrev pub as_rule : Stated → Rule
as_rule s = rule_of s.head s.body

-- a stated rule is one that a model with these alternatives takes
abbrev pub Taken : List (List ℕ) → Stated → Type 0
Taken as' s = judge_rule (sizes as') s.head s.body ≡ None

-- the alternatives are the same, the held rules are exactly the minimal ones of the stated rules, each once and in order,
-- and the suppositions are the same
pub record Agrees (j : Journal) (m : Model) (s : Suppositions) : Type 0 where
  pub declared : alternatives m ≡ j.declared
  pub taken : AllByRecursion (Taken j.declared) j.stated
  pub held : Minimals rule_below rule_before (map as_rule j.stated) (rules m)
  pub supposed : s.choices ≡ j.supposed
