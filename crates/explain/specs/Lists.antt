-- Rows of code as lists of numbers, and what answers say of them.
use Rattle.std.specs.Prelude.{◌≡◌, ℕ, ◌<◌, Bool, List, map, length, replicate, Some, None, Ok, Err, Option, Result, slice_set}
use Rattle.std.specs.Borrow.{Bor}
use Rattle.rows.specs.declared.row.Row.{Row}
use Rattle.logic.specs.Atoms as logic_atoms
use Rattle.logic.specs.Options as logic
use Rattle.explain.specs.declared.lists.Lengths.{Lengths}
use Rattle.explain.specs.declared.lists.Lists.{Lists}

-- the numbers of each row
abbrev pub as_lists : List Row → List logic.Row
as_lists rows = map (λ (r : Row). r.choices) rows

-- the row that makes one choice alone
abbrev pub lone : ℕ → ℕ → logic.Row
lone place n = slice_set (replicate 16 0) place n

-- the rows of code that make one of these choices alone
abbrev pub alone_rows : ℕ → List ℕ → List Row
alone_rows place ns = map (λ n. record { choices = lone place n }) ns

-- each answer to a byte is what p says
abbrev pub Answers : (ℕ → Bool → Type 0) → (ℕ → Bool) → Type 0
Answers post p = (n : ℕ) (b : Bool) → n < 256 → post n b → b ≡ p n

-- the two lists, as the definitions have them
abbrev pub lists_in : Lists → logic_atoms.Lists
lists_in l = record { own = as_lists l.own.now; negated = as_lists l.negated.now }

-- how many rows two lists have
abbrev pub lengths_of : logic_atoms.Lists → Lengths
lengths_of e = record { own = length e.own; negated = length e.negated }

-- what an answer with rows says: these are all, or they were refused
abbrev pub told_rows : {E : Type 0} → Result (Bor (List Row)) E → Option (List logic.Row)
told_rows (Ok r) = Some (as_lists r.now)
told_rows (Err e) = None
