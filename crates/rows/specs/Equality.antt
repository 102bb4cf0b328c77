-- What `==` says of rows.
use Rattle.std.specs.Prelude.{◌≡◌, Bool, Decides}
use Rattle.rows.specs.contracts.row.RowPartialEq.TheImpl as of_rows
use Rattle.rows.specs.declared.row.Row.{Row}

-- the test that the derive makes
abbrev pub equal_rows : Row → Row → Bool
equal_rows = of_rows.ghosts.eq

-- it tells exactly whether two rows are the same
abbrev pub EqualRows : Type 0
EqualRows = (r s : Row) → Decides (equal_rows r s) (r ≡ s)
