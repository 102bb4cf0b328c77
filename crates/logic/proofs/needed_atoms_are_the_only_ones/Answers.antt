use Rattle.logic.proofs.Needs.{needed_only}
use Rattle.logic.proofs.needed_atoms_are_the_only_ones.Goals as goal

pub returns : goal.returns
returns c = needed_only
