use Rattle.logic.proofs.Tables.{table_explains}
use Rattle.logic.proofs.table_explains.Goals as goal

pub returns : goal.returns
returns c = table_explains
