use Rattle.logic.proofs.Limits.{duals_limited}
use Rattle.logic.proofs.duals_are_limited_only.Goals as goal

pub returns : goal.returns
returns c = duals_limited
