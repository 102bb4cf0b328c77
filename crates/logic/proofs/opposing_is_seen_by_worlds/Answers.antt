use Rattle.logic.proofs.Worlds.{opposes_worlds}
use Rattle.logic.proofs.opposing_is_seen_by_worlds.Goals as goal

pub returns : goal.returns
returns c = opposes_worlds
