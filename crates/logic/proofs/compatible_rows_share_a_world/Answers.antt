use Rattle.logic.proofs.Worlds.{common_world}
use Rattle.logic.proofs.compatible_rows_share_a_world.Goals as goal

pub returns : goal.returns
returns c = common_world
