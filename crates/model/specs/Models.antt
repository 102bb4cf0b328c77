-- What a model holds, and what each call makes of it.
use Rattle.std.specs.Prelude.{ℕ, ◌-◌, cond, ◌&&◌, List, [], ◌∷◌, ◌++◌, map, length, take, Some, None, Ok, Err, Option, Result, nat_le, nat_lt, slice_index_or, slice_set}
use Rattle.rows.specs.Keeping.{kept}
use Rattle.model.specs.declared.literal.Literal.{Literal}
use Rattle.model.specs.declared.model.Model.{Model}
use Rattle.model.specs.declared.refusal.Refusal.{Refusal}
use Rattle.model.specs.declared.refusal.Refusal.TheVariants.{NumberOfChoices, NumberOfAlternatives, NotDeclared, NumberOfRules}
use Rattle.model.specs.declared.rule.Rule.{Rule}
use Rattle.model.specs.Alternatives.{weights_of}
use Rattle.model.specs.Judging.{is_declared, judge_rule}
use Rattle.model.specs.Rules.{rule_below, rule_before, rule_of}

-- the alternatives of a model, each the raw weights of its choices
abbrev pub alternatives : Model → List (List ℕ)
alternatives m = map weights_of (take m.declared m.alternatives)

-- the rules that a model holds
abbrev pub rules : Model → List Rule
rules m = take m.held m.rules

-- how many choices each alternative has
abbrev pub sizes : List (List ℕ) → List ℕ
sizes as' = map length as'

-- one alternative more
abbrev pub declaring : List (List ℕ) → List ℕ → Result (List (List ℕ)) Refusal
declaring as' weights =
    cond (nat_le 2 (length weights) && nat_le (length weights) 8)
    (cond (nat_lt (length as') 16) (Ok (as' ++ (weights ∷ []))) (Err NumberOfAlternatives))
    (Err NumberOfChoices)

-- another weight for one choice
abbrev pub reweighing : List (List ℕ) → ℕ → ℕ → ℕ → List (List ℕ)
reweighing as' alternative choice weight = slice_set as' (alternative - 1) (slice_set (slice_index_or as' (alternative - 1) []) (choice - 1) weight)

abbrev pub weighing : List (List ℕ) → ℕ → ℕ → ℕ → Result (List (List ℕ)) Refusal
weighing as' alternative choice weight = cond (is_declared (sizes as') alternative choice) (Ok (reweighing as' alternative choice weight)) (Err (NotDeclared 0))

-- one rule more, put to those that are held
abbrev pub put_answer : Option (List Rule) → Result (List Rule) Refusal
put_answer (Some rs) = Ok rs
put_answer None = Err NumberOfRules

abbrev pub judged : {X : Type 0} → Option Refusal → Result X Refusal → Result X Refusal
judged (Some f) rest = Err f
judged None rest = rest

abbrev pub stating : List (List ℕ) → List Rule → ℕ → List Literal → Result (List Rule) Refusal
stating as' rs head body = judged (judge_rule (sizes as') head body) (put_answer (kept rule_below rule_before 128 rs (rule_of head body)))

-- what an answer says of what is held afterwards
abbrev pub outcome : {X U : Type 0} → Result U Refusal → X → Result X Refusal
outcome (Ok u) x = Ok x
outcome (Err f) x = Err f
