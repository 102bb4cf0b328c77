use Rattle.model.proofs.Meanings.{held_rules_alike}
use Rattle.model.proofs.theorems.held_rules_say_it_all.Goals as goal

pub returns : goal.returns
returns c = held_rules_alike
