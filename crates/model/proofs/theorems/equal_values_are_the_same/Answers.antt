use Rattle.model.specs.EqualityLaws.{alternatives_decided, literals_decided, models_decided, rules_decided, suppositions_decided}
use Rattle.model.proofs.theorems.equal_values_are_the_same.Goals as goal

pub returns : goal.returns
returns c =
    record { literals = literals_decided; alternatives = alternatives_decided; rules = rules_decided; models = models_decided; suppositions = suppositions_decided }
