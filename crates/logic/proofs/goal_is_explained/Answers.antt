use Rattle.logic.proofs.Tables.{goal_explains}
use Rattle.logic.proofs.goal_is_explained.Goals as goal

pub returns : goal.returns
returns c = goal_explains
