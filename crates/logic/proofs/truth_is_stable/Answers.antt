use Rattle.logic.proofs.Truths.{truth_stable}
use Rattle.logic.proofs.truth_is_stable.Goals as goal

pub returns : goal.returns
returns c = truth_stable
