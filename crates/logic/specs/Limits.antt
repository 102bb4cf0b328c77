-- A refusal is for want of room alone.
use Rattle.std.specs.Prelude.{◌≡◌, ℕ, ◌≤◌, Bool, List, Some, Option}
use Rattle.logic.specs.Options.{Row, Options}
use Rattle.logic.specs.Rules.{Rule}
use Rattle.logic.specs.Duals.{duals}
use Rattle.logic.specs.Atoms.{table}

-- an answer is the same at each higher limit, and at some limit there is one
pub record LimitedOnly {A : Type 0} (work : ℕ → Option A) : Type 0 where
  pub stays : (limit more : ℕ) (x : A) → limit ≤ more → work limit ≡ Some x → work more ≡ Some x
  pub enough : (limit : ℕ) × (x : A) × (work limit ≡ Some x)

-- The theorems, for the duals and for the table of the atoms
abbrev pub DualsLimited : Type 0
DualsLimited = (os : Options) (rows : List Row) → LimitedOnly (λ limit. duals limit os rows)

abbrev pub TableLimited : Type 0
TableLimited = (os : Options) (rules : List Rule) (wanted : ℕ → Bool) (n : ℕ) → LimitedOnly (λ limit. table limit os rules wanted n)
