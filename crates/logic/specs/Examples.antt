-- A small program, and what the definitions make of it.
use Rattle.std.specs.Prelude.{◌≡◌, ℕ, true, false, List, [], ◌∷◌, Some, None}
use Rattle.logic.specs.Options.{Row, Options}
use Rattle.logic.specs.Rules.{is_true, chosen, not_chosen, Rule, truth}
use Rattle.logic.specs.Needed.{needed}
use Rattle.logic.specs.Duals.{duals}
use Rattle.logic.specs.Atoms.{Lists, table}

-- three places: two options, three options, fixed
abbrev pub places : Options
places = (1 ∷ 2 ∷ []) ∷ (1 ∷ 2 ∷ 3 ∷ []) ∷ (1 ∷ []) ∷ []

abbrev pub row : ℕ → ℕ → Row
row first second = first ∷ second ∷ 0 ∷ []

abbrev pub program : List Rule
program =
    record { head = 0; body = chosen 0 1 ∷ chosen 1 1 ∷ [] }
    ∷ record { head = 0; body = chosen 0 2 ∷ chosen 2 1 ∷ [] }
    ∷ record { head = 1; body = is_true 0 ∷ not_chosen 1 3 ∷ [] }
    ∷ []

-- Atom 0 is explained by 2 at the first place, and by 1 at the second, which neither of its rules shows alone
abbrev pub explained : List Lists
explained =
    record { own = row 0 1 ∷ row 2 0 ∷ []; negated = row 1 2 ∷ row 1 3 ∷ [] }
    ∷ record { own = row 0 1 ∷ row 2 2 ∷ []; negated = row 0 3 ∷ row 1 2 ∷ [] }
    ∷ []

pub record Examples : Type 0 where
  pub derived : truth program (2 ∷ 2 ∷ 1 ∷ []) 1 ≡ true
  pub not_derived : truth program (2 ∷ 3 ∷ 1 ∷ []) 1 ≡ false
  pub opposed : duals 3 places (row 1 1 ∷ row 2 0 ∷ []) ≡ Some (row 1 2 ∷ row 1 3 ∷ [])
  pub answered : table 3 places program (needed program 1) 2 ≡ Some explained
  pub refused : table 2 places program (needed program 1) 2 ≡ None
  pub left_out : needed program 0 1 ≡ false
