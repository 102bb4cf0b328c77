-- The atoms that a goal depends on: no others need be worked out for it.
use Rattle.std.specs.Prelude.{◌≡◌, ℕ, zero, suc, Bool, true, false, ◌&&◌, ◌||◌, List, [], ◌∷◌, ◌==◌}
use Rattle.rows.specs.Minimal.{Among}
use Rattle.logic.specs.Rules.{Literal, is_true, is_false, chosen, not_chosen, Rule, Uses, Layered}

-- with an atom every atom in a rule for it is wanted
abbrev pub Closed : List Rule → (ℕ → Bool) → Type 0
Closed rules wanted = (r : Rule) (a : ℕ) → Among rules r → wanted r.head ≡ true → Uses r.body a → wanted a ≡ true

-- the goal is wanted, what it depends on is, and nothing else
pub record JustNeeded (rules : List Rule) (goal : ℕ) (wanted : ℕ → Bool) : Type 0 where
  pub start : wanted goal ≡ true
  pub closed : Closed rules wanted
  pub least : (other : ℕ → Bool) → other goal ≡ true → Closed rules other → (a : ℕ) → wanted a ≡ true → other a ≡ true

-- the literal is of the atom a
abbrev pub is_of : ℕ → Literal → Bool
is_of a (is_true b) = b == a
is_of a (is_false b) = b == a
is_of a (chosen place n) = false
is_of a (not_chosen place n) = false

-- a stands in the body
unfoldable pub uses : List Literal → ℕ → Bool
uses [] a = false
uses (l ∷ ls) a = is_of a l || uses ls a

-- a stands in the body of a rule for a wanted atom
unfoldable pub used : List Rule → (ℕ → Bool) → ℕ → Bool
used [] wanted a = false
used (r ∷ rs) wanted a = (wanted r.head && uses r.body a) || used rs wanted a

-- what n steps reach from the goal
unfoldable pub reached : List Rule → ℕ → ℕ → ℕ → Bool
reached rules goal zero a = goal == a
reached rules goal (suc n) a = reached rules goal n a || used rules (reached rules goal n) a

-- each step leads to a lower atom, so that there are no more steps than atoms below the goal
unfoldable pub needed : List Rule → ℕ → ℕ → Bool
needed rules goal a = reached rules goal goal a

-- The theorems. These atoms are just what is needed,
abbrev pub NeededJust : Type 0
NeededJust = (rules : List Rule) (goal : ℕ) → Layered rules → JustNeeded rules goal (needed rules goal)

-- and no other set of atoms is
abbrev pub NeededOnly : Type 0
NeededOnly = (rules : List Rule) (goal : ℕ) (wanted : ℕ → Bool) → Layered rules → JustNeeded rules goal wanted → (a : ℕ) → wanted a ≡ needed rules goal a
