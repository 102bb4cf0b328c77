use Rattle.model.proofs.Meanings.{rules_layered}
use Rattle.model.proofs.theorems.rules_are_layered.Goals as goal

pub returns : goal.returns
returns c = rules_layered
