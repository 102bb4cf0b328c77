-- The two orders of rows, and what worlds see of a list of rows. A world is a row too: it sees those that it contains.
use Rattle.std.specs.Prelude.{◌≡◌, Bool, List}
use Rattle.rows.specs.Keeping.{covered}
use Rattle.rows.specs.Rows.{contains, earlier}
use Rattle.rows.specs.declared.row.Row.{Row}

-- s is contained in r
abbrev pub inside : Row → Row → Bool
inside s r = contains r.choices s.choices

-- at the first difference s has the smaller number
abbrev pub sooner : Row → Row → Bool
sooner s r = earlier s.choices r.choices

-- each world contains one of ys exactly when it contains one of xs
abbrev pub SeenAlike : List Row → List Row → Type 0
SeenAlike xs ys = (w : Row) → covered inside ys w ≡ covered inside xs w
