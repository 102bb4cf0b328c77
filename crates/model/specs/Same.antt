-- A model is its four fields: what it keeps to has one proof at most.
use mathlib.Core.HLevel.{is_prop→PathP}
use Rattle.std.proofs.Common.{◌≡◌}
use Rattle.model.specs.declared.alternative.Alternative.{Alternative}
use Rattle.model.specs.declared.model.Model.{Model}
use Rattle.model.specs.declared.rule.Rule.{Rule}
use Rattle.model.specs.contracts.model.Model.{the_values, the_ghost, the_propositions}
use Rattle.model.specs.contracts.alternative.Alternative as alternative
use Rattle.model.specs.contracts.rule.Rule as rule

model_of : (v : the_values) → the_ghost v → Model
model_of v g = record {
  declared = v.0;
  alternatives = v.1.0;
  held = v.1.1.0;
  rules = v.1.1.1.0;
  places = g.0;
  few = g.1.0;
  canonical = g.1.1.0;
  unused = g.1.1.1.0;
  shelves = g.1.1.1.1.0;
  within = g.1.1.1.1.1.0;
  sound = g.1.1.1.1.1.1.0;
  minimal = g.1.1.1.1.1.1.1.0;
  unheld = g.1.1.1.1.1.1.1.1.0;
}

values : Model → the_values
values m = (m.declared, (m.alternatives, (m.held, (m.rules, tt))))

ghosts : (m : Model) → the_ghost (values m)
unfolding values
ghosts m = (m.places, (m.few, (m.canonical, (m.unused, (m.shelves, (m.within, (m.sound, (m.minimal, (m.unheld, tt)))))))))

pub model_same : (m n : Model) → m.declared ≡ n.declared → m.alternatives ≡ n.alternatives → m.held ≡ n.held → m.rules ≡ n.rules → m ≡ n
unfolding values ghosts model_of
model_same m n p q r s =
    let v : values m ≡ values n = λ i. (p i, (q i, (r i, (s i, tt)))) in
    λ i. model_of (v i) (is_prop→PathP (λ j. the_ghost (v j)) (λ j. the_propositions (alternative.the_row).coded (rule.the_row).coded (v j)) (ghosts m) (ghosts n) i)

-- an alternative is its two fields, and a rule its three
pub alternative_same : (a b : Alternative) → a.choices ≡ b.choices → a.weights ≡ b.weights → a ≡ b
alternative_same a b p q = λ i. record { choices = p i; weights = q i }

pub rule_fields_same : (r s : Rule) → r.head ≡ s.head → r.len ≡ s.len → r.body ≡ s.body → r ≡ s
rule_fields_same r s p q t = λ i. record { head = p i; len = q i; body = t i }
