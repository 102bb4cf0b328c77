-- Which atoms are marked, and what marking one more adds.
use Rattle.std.specs.Prelude.{◌≡◌, ℕ, Bool, true, false, List, slice_index_or}
use Rattle.rows.specs.Minimal.{Among}
use Rattle.logic.specs.Needed.{Closed}
use Rattle.logic.specs.Rules.{Rule, Uses, Layered}

abbrev pub marked : List Bool → ℕ → Bool
marked marks a = slice_index_or marks a false

-- the atom is marked; nothing is unmarked; of each atom that is newly marked all that its rules use is marked too; and
-- nothing is marked but what was, and what an atom depends on
pub record Marked (rules : List Rule) (atom : ℕ) (before after : List Bool) : Type 0 where
  pub start : marked after atom ≡ true
  pub more : (a : ℕ) → marked before a ≡ true → marked after a ≡ true
  pub closed : Layered rules → (r : Rule) (a : ℕ) → Among rules r → marked after r.head ≡ true → marked before r.head ≡ false → Uses r.body a → marked after a ≡ true
  pub least : (other : ℕ → Bool) → other atom ≡ true → Closed rules other → ((a : ℕ) → marked before a ≡ true → other a ≡ true) → (a : ℕ) → marked after a ≡ true → other a ≡ true
