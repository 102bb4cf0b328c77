use Rattle.logic.proofs.Truths.{truth_alike}
use Rattle.logic.proofs.truth_is_alike.Goals as goal

pub returns : goal.returns
returns c = truth_alike
