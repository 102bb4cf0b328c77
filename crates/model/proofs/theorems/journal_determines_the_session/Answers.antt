use Rattle.model.proofs.Determined.{determined}
use Rattle.model.proofs.theorems.journal_determines_the_session.Goals as goal

pub returns : goal.returns
returns c = determined
