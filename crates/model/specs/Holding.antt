-- What every model keeps to.
use Rattle.std.specs.Prelude.{ℕ, Bool, true, not, ◌&&◌, List, [], ◌∷◌, map, is_some}
use Rattle.model.specs.declared.alternative.Alternative.{Alternative}
use Rattle.model.specs.declared.literal.Literal.{Literal}
use Rattle.model.specs.declared.rule.Rule.{Rule}
use Rattle.model.specs.Judging.{is_atom, judge_literal}
use Rattle.model.specs.Rules.{literals, canonical}

-- how many choices each alternative has
abbrev pub sizes_of : List Alternative → List ℕ
sizes_of alternatives = map (λ a. a.choices) alternatives

-- no literal of a body is refused
abbrev pub taken : List ℕ → ℕ → List Literal → Bool
taken sizes head [] = true
taken sizes head (l ∷ ls) = not (is_some (judge_literal sizes head 0 l)) && taken sizes head ls

-- a rule as a model holds it
abbrev pub sound_rule : List ℕ → Rule → Bool
sound_rule sizes r = canonical r && (is_atom r.head && taken sizes r.head (literals r))

abbrev pub sound_rules : List ℕ → List Rule → Bool
sound_rules sizes [] = true
sound_rules sizes (r ∷ rs) = sound_rule sizes r && sound_rules sizes rs
