-- What `==` says of the values of a model.
use Rattle.std.specs.Prelude.{◌≡◌, Bool, Decides, nat_eq}
use Rattle.std.specs.Cmp.Lexicographic.{pointwise}
use Rattle.std.specs.Ordering.{on, eq_of_both}
use Rattle.model.specs.contracts.alternative.AlternativePartialEq.TheImpl as of_alternatives
use Rattle.model.specs.contracts.literal.LiteralPartialEq.TheImpl as of_literals
use Rattle.model.specs.contracts.suppositions.SuppositionsPartialEq.TheImpl as of_suppositions
use Rattle.model.specs.declared.alternative.Alternative.{Alternative}
use Rattle.model.specs.declared.literal.Literal.{Literal}
use Rattle.model.specs.declared.model.Model.{Model}
use Rattle.model.specs.declared.rule.Rule.{Rule}
use Rattle.model.specs.declared.suppositions.Suppositions.{Suppositions}

-- The tests, each field of one value with that of the other. These three are those that the derives make.
abbrev pub equal_literals : Literal → Literal → Bool
equal_literals = of_literals.ghosts.eq

abbrev pub equal_alternatives : Alternative → Alternative → Bool
equal_alternatives = of_alternatives.ghosts.eq

abbrev pub equal_suppositions : Suppositions → Suppositions → Bool
equal_suppositions = of_suppositions.ghosts.eq

abbrev pub equal_rules : Rule → Rule → Bool
equal_rules = eq_of_both (on (λ r. r.head) nat_eq) (eq_of_both (on (λ r. r.len) nat_eq) (on (λ r. r.body) (pointwise equal_literals)))

abbrev pub equal_models : Model → Model → Bool
equal_models =
    eq_of_both
    (on (λ m. m.declared) nat_eq)
    (eq_of_both (on (λ m. m.held) nat_eq) (eq_of_both (on (λ m. m.alternatives) (pointwise equal_alternatives)) (on (λ m. m.rules) (pointwise equal_rules))))

-- each tells exactly whether two values are the same
pub record EqualSame : Type 0 where
  pub literals : (x y : Literal) → Decides (equal_literals x y) (x ≡ y)
  pub alternatives : (x y : Alternative) → Decides (equal_alternatives x y) (x ≡ y)
  pub rules : (x y : Rule) → Decides (equal_rules x y) (x ≡ y)
  pub models : (x y : Model) → Decides (equal_models x y) (x ≡ y)
  pub suppositions : (x y : Suppositions) → Decides (equal_suppositions x y) (x ≡ y)
