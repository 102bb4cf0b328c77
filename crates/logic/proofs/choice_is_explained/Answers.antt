use Rattle.logic.proofs.Chosen.{choice_explains}
use Rattle.logic.proofs.choice_is_explained.Goals as goal

pub returns : goal.returns
returns c = choice_explains
