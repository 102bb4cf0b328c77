use Rattle.logic.proofs.Duals.{duals_deny}
use Rattle.logic.proofs.duals_deny.Goals as goal

pub returns : goal.returns
returns c = duals_deny
