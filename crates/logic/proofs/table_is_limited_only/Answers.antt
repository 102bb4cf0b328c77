use Rattle.logic.proofs.Limits.{table_limited}
use Rattle.logic.proofs.table_is_limited_only.Goals as goal

pub returns : goal.returns
returns c = table_limited
