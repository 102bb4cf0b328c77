-- The card that a model is written as.
use Rattle.std.specs.Prelude.{◌≡◌, ℕ, ◌/◌, ◌%◌, ◌^◌, ◌<◌, List, [], ◌∷◌, ◌++◌, map, Ok}
use Rattle.std.specs.List.{flat_map, AllByRecursion}
use Rattle.model.specs.declared.alternative.Alternative.{Alternative}
use Rattle.model.specs.declared.literal.Literal.{Literal}
use Rattle.model.specs.declared.model.Model.{Model}
use Rattle.model.specs.declared.rule.Rule.{Rule}
use Rattle.model.specs.Alternatives.{weights_of}
use Rattle.model.specs.Models.{alternatives, rules}
use Rattle.model.specs.Rules.{literals}
use Rattle.card.specs.Encoding.{Entry, alternative, rule, end, encoding}
use Rattle.card.specs.Loading.{holding, loaded}

-- a raw weight as four bytes, the lowest first
abbrev pub weight_bytes : ℕ → List ℕ
weight_bytes n = n % 256 ∷ n / 256 % 256 ∷ n / (256 ^ 2) % 256 ∷ n / (256 ^ 3) % 256 ∷ []

-- a literal as three bytes
abbrev pub literal_bytes : Literal → List ℕ
literal_bytes l = l.kind ∷ l.first ∷ l.second ∷ []

-- the record of an alternative with these raw weights
abbrev pub alternative_entry : List ℕ → Entry
alternative_entry weights = alternative (flat_map weight_bytes weights)

-- the record of a rule
abbrev pub rule_entry : Rule → Entry
rule_entry r = rule r.head (flat_map literal_bytes (literals r))

-- the alternatives in order, then the rules in order, then the end record
abbrev pub records : Model → List Entry
records m = map alternative_entry (alternatives m) ++ (map rule_entry (rules m) ++ (end ∷ []))

-- the card of a model
abbrev pub stored : Model → List ℕ
stored m = flat_map encoding (records m)

-- the bytes of an alternative's record, and of a rule's
abbrev pub alternative_bytes : Alternative → List ℕ
alternative_bytes a = encoding (alternative_entry (weights_of a))

abbrev pub rule_bytes : Rule → List ℕ
rule_bytes r = encoding (rule_entry r)

-- raw weights that four bytes can hold
abbrev pub Fit : List ℕ → Type 0
Fit weights = AllByRecursion (λ w. w < 2 ^ 32) weights

-- the card of a model is accepted, and whatever it is loaded into is that model, equal as a value: so it has the same card
pub record ReadsBack (m : Model) : Type 0 where
  pub accepted : loaded (stored m) ≡ Ok (holding m)
  pub same : (n : Model) → loaded (stored m) ≡ Ok (holding n) → n ≡ m
  pub again : (n : Model) → loaded (stored m) ≡ Ok (holding n) → stored n ≡ stored m
