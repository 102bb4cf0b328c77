use Rattle.logic.proofs.Needs.{needed_just}
use Rattle.logic.proofs.needed_atoms_are_just_enough.Goals as goal

pub returns : goal.returns
returns c = needed_just
