use Rattle.rows.specs.RowLaws.{rows_decided}
use Rattle.rows.proofs.theorems.equal_rows_are_the_same.Goals as goal

pub returns : goal.returns
returns c = rows_decided
