-- The lists of the atoms, as code holds them.
use Rattle.std.specs.Prelude.{Bool, true, false, List, map, Some, None, Ok, Err, Option, Result}
use Rattle.logic.specs.Atoms.{Lists}
use Rattle.logic.specs.Options as logic
use Rattle.explain.specs.declared.atoms.Known.{Known}
use Rattle.explain.specs.declared.lists.Lists as code
use Rattle.explain.specs.declared.work.Table.{Table}
use Rattle.explain.specs.Lists.{lists_in}

-- the own list, or the negated one
abbrev pub side : Bool → Lists → List logic.Row
side false e = e.own
side true e = e.negated

-- the lists of the lower atoms
abbrev pub lower_lists : Known → List Lists
lower_lists k = map lists_in k.lower.now

-- the lists of all atoms
abbrev pub all_lists : Table → List Lists
all_lists t = map lists_in t.lists

-- what an answer with lists says: these are both, or they were refused
abbrev pub told_lists : {E : Type 0} → Result code.Lists E → Option Lists
told_lists (Ok l) = Some (lists_in l)
told_lists (Err e) = None
