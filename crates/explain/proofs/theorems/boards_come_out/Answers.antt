use Rattle.explain.proofs.Boards.{boards}
use Rattle.explain.proofs.theorems.boards_come_out.Goals as goal

pub returns : goal.returns
returns c = boards
