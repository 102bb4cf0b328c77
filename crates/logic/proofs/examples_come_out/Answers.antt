use Rattle.logic.proofs.Examples.{examples}
use Rattle.logic.proofs.examples_come_out.Goals as goal

pub returns : goal.returns
returns c = examples
