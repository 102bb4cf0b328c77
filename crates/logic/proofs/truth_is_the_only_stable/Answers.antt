use Rattle.logic.proofs.Truths.{truth_only}
use Rattle.logic.proofs.truth_is_the_only_stable.Goals as goal

pub returns : goal.returns
returns c = truth_only
