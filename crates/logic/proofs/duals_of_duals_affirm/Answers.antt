use Rattle.logic.proofs.Duals.{duals_affirm}
use Rattle.logic.proofs.duals_of_duals_affirm.Goals as goal

pub returns : goal.returns
returns c = duals_affirm
