-- Alternatives, each the raw weights of its choices.
use Rattle.std.specs.Prelude.{ℕ, ◌-◌, Bool, true, ◌&&◌, List, [], ◌∷◌, ◌++◌, length, take, drop, replicate, ◌==◌, nat_le}
use Rattle.model.specs.declared.alternative.Alternative.{Alternative}

-- the raw weight of each choice, in order
abbrev pub weights_of : Alternative → List ℕ
weights_of a = take a.choices a.weights

-- an alternative in a table of eight places
abbrev pub alternative_of : List ℕ → Alternative
alternative_of weights = record { choices = length weights; weights = weights ++ replicate (8 - length weights) 0 }

-- what a place without an alternative holds
abbrev pub blank_alternative : Alternative
blank_alternative = alternative_of []

abbrev pub zeros : List ℕ → Bool
zeros [] = true
zeros (n ∷ ns) = n == 0 && zeros ns

-- two to eight choices, and 0 in the places past them
abbrev pub canonical_alternative : Alternative → Bool
canonical_alternative a = length a.weights == 8 && (nat_le 2 a.choices && (nat_le a.choices 8 && zeros (drop a.choices a.weights)))

abbrev pub canonical_alternatives : List Alternative → Bool
canonical_alternatives [] = true
canonical_alternatives (a ∷ as') = canonical_alternative a && canonical_alternatives as'
