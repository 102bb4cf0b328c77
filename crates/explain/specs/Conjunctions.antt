-- What a conjunction under way holds.
use Rattle.std.specs.Prelude.{List}
use Rattle.rows.specs.Lending.{items}
use Rattle.logic.specs.Options.{Row}
use Rattle.explain.specs.declared.duals.Conjunction.{Conjunction}
use Rattle.explain.specs.Lists.{as_lists}

abbrev pub rows_in : Conjunction → List Row
rows_in c = as_lists (items c.rows)
