use Rattle.logic.proofs.Duals.{duals_minimal}
use Rattle.logic.proofs.duals_are_minimal.Goals as goal

pub returns : goal.returns
returns c = duals_minimal
