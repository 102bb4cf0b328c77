-- The minimal rows of those with a property, and what worlds see of a list of rows.
use Rattle.std.specs.Prelude.{◌≡◌, Bool, true, ◌↔◌, List}
use Rattle.rows.specs.Keeping.{covered}
use Rattle.rows.specs.Minimal.{Among, Ascending, Once}
use Rattle.rows.specs.Rows.{contains, earlier}
use Rattle.logic.specs.Options.{Row, Options, World, Formed, AllFormed}

-- s is contained in r
abbrev pub under : Row → Row → Bool
under s r = contains r s

-- r has P, and no other row with P is contained in it
abbrev pub MinimalOf : (Row → Type 0) → Row → Type 0
MinimalOf P r = P r × ((s : Row) → P s → contains r s ≡ true → s ≡ r)

-- the rows are the minimal ones with P: these and no others, each once, in order
pub record MinimalsOf (P : Row → Type 0) (rows : List Row) : Type 0 where
  pub members : (r : Row) → Among rows r ↔ MinimalOf P r
  pub once : Once rows
  pub ascending : Ascending earlier rows

-- a world contains one of the rows exactly if G is true of it
abbrev pub Covers : Options → List Row → (Row → Bool) → Type 0
Covers os rows G = (w : Row) → World os w → covered under rows w ≡ G w

-- r is well-formed, and G is true of every world that contains it
abbrev pub Forces : Options → (Row → Bool) → Row → Type 0
Forces os G r = Formed os r × ((w : Row) → World os w → contains w r ≡ true → G w ≡ true)

-- the rows are exactly the minimal ones that force G, and together they cover it
pub record FullExplanation (os : Options) (G : Row → Bool) (rows : List Row) : Type 0 where
  pub minimal : MinimalsOf (Forces os G) rows
  pub covers : Covers os rows G
  pub formed : AllFormed os rows
