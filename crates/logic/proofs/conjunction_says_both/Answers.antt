use Rattle.logic.proofs.Conjoined.{conjoined_both}
use Rattle.logic.proofs.conjunction_says_both.Goals as goal

pub returns : goal.returns
returns c = conjoined_both
