-- Small models, and what explaining answers of them.
use Rattle.std.specs.Prelude.{◌≡◌, ℕ, ◌-◌, ◌≤◌, true, List, [], ◌∷◌, ◌++◌, map, length, take, drop, replicate, Ok, refl}
use Rattle.std.proofs.Common.{lit≤}
use Rattle.logic.specs.Options.{Row}
use Rattle.model.specs.declared.alternative.Alternative.{Alternative}
use Rattle.model.specs.declared.literal.Literal.{Literal}
use Rattle.model.specs.declared.model.Model.{Model}
use Rattle.model.specs.declared.rule.Rule.{Rule}
use Rattle.model.specs.declared.suppositions.Suppositions.{Suppositions}
use Rattle.model.specs.Alternatives.{alternative_of, blank_alternative, canonical_alternatives}
use Rattle.model.specs.Holding.{sizes_of, sound_rules}
use Rattle.model.specs.Rules.{blank_rule, minimal_rules, rule_of}
use Rattle.explain.specs.Explaining.{explaining}

abbrev pub atom : ℕ → Literal
atom n = record { kind = 0; first = n; second = 0 }

abbrev pub choice : ℕ → ℕ → Literal
choice alternative n = record { kind = 2; first = alternative; second = n }

-- a row that touches no place past the third
abbrev pub row : ℕ → ℕ → ℕ → Row
row first second third = first ∷ second ∷ third ∷ replicate 13 0

-- the model that has these alternatives, each the raw weights of its choices, and these rules
module _ (as' : List (List ℕ)) (rs : List Rule) where
  abbrev pub alternative_table : List Alternative
  alternative_table = map alternative_of as' ++ replicate (16 - length as') blank_alternative

  abbrev pub rule_table : List Rule
  rule_table = rs ++ replicate (128 - length rs) blank_rule

  abbrev pub model_of :
      length alternative_table ≡ 16 → length as' ≤ 16 → canonical_alternatives (take (length as') alternative_table) ≡ true →
      drop (length as') alternative_table ≡ replicate (16 - length as') blank_alternative →
      length rule_table ≡ 128 → length rs ≤ 128 → sound_rules (sizes_of (take (length as') alternative_table)) (take (length rs) rule_table) ≡ true →
      minimal_rules (take (length rs) rule_table) ≡ take (length rs) rule_table →
      drop (length rs) rule_table ≡ replicate (128 - length rs) blank_rule → Model
  model_of places few canonical unused shelves within sound minimal unheld = record {
    declared = length as';
    alternatives = alternative_table;
    held = length rs;
    rules = rule_table;
    places = places;
    few = few;
    canonical = canonical;
    unused = unused;
    shelves = shelves;
    within = within;
    sound = sound;
    minimal = minimal;
    unheld = unheld;
  }

-- three alternatives of two choices, and two rules each for the atoms 1 and 2
abbrev pub pairs : List (List ℕ)
pairs = replicate 3 (1 ∷ 1 ∷ [])

abbrev pub pair_rules : List Rule
pair_rules =
    rule_of 1 (choice 1 1 ∷ choice 2 1 ∷ [])
    ∷ rule_of 1 (choice 1 2 ∷ choice 2 1 ∷ [])
    ∷ rule_of 2 (choice 1 1 ∷ choice 2 1 ∷ [])
    ∷ rule_of 2 (choice 1 2 ∷ choice 3 1 ∷ [])
    ∷ []

abbrev pub paired : Model
paired = model_of pairs pair_rules refl (lit≤ tt) refl refl refl (lit≤ tt) refl refl refl

-- the same, and the atom 3 is a fact
abbrev pub with_fact : Model
with_fact = model_of pairs (pair_rules ++ (rule_of 3 [] ∷ [])) refl (lit≤ tt) refl refl refl (lit≤ tt) refl refl refl

-- two alternatives of three choices, and two rules for the atom 1
abbrev pub triples : List (List ℕ)
triples = replicate 2 (1 ∷ 1 ∷ 1 ∷ [])

abbrev pub triple_rules : List Rule
triple_rules = rule_of 1 (choice 1 1 ∷ choice 2 1 ∷ []) ∷ rule_of 1 (choice 1 2 ∷ choice 2 2 ∷ []) ∷ []

abbrev pub tripled : Model
tripled = model_of triples triple_rules refl (lit≤ tt) refl refl refl (lit≤ tt) refl refl refl

abbrev pub bare : Model
bare = model_of [] [] refl (lit≤ tt) refl refl refl (lit≤ tt) refl refl refl

-- what is answered of an atom, where the choices of a row are supposed
abbrev pub Answered : Model → Row → ℕ → List Row → List Row → Type 0
Answered m supposed n own negated =
    let s : Suppositions = record { choices = supposed } in
    explaining m s (atom n) true ≡ Ok (record { own = own; negated = negated })

pub record Boards : Type 0 where
  -- whatever is chosen of the alternative 1, the choice 1 of the alternative 2 is enough
  pub common : Answered paired (row 0 0 0) 1 (row 0 1 0 ∷ []) (row 0 2 0 ∷ [])
  -- the choices 1 of the alternatives 2 and 3 explain the atom 2 together, although no rule has them as its body
  pub joint : Answered paired (row 0 0 0) 2 (row 0 1 1 ∷ row 1 1 0 ∷ row 2 0 1 ∷ []) (row 0 2 2 ∷ row 1 2 0 ∷ row 2 0 2 ∷ [])
  pub supposed : Answered paired (row 1 0 0) 2 (row 0 1 0 ∷ []) (row 0 2 0 ∷ [])
  pub three_choices : Answered tripled (row 0 0 0) 1 (row 1 1 0 ∷ row 2 2 0 ∷ []) (row 0 3 0 ∷ row 1 2 0 ∷ row 2 1 0 ∷ row 3 0 0 ∷ [])
  pub no_rule : Answered bare (row 0 0 0) 5 [] (row 0 0 0 ∷ [])
  pub fact : Answered with_fact (row 0 0 0) 3 (row 0 0 0 ∷ []) []
