-- Rules over atoms and choices, and which atoms are true in a world.
use Rattle.std.specs.Prelude.{◌≡◌, ℕ, zero, suc, ◌<◌, Bool, true, false, not, ◌&&◌, ◌||◌, ◌⊎◌, ◌↔◌, List, [], ◌∷◌, filter, ◌==◌, nat_eq, slice_index}
use Rattle.rows.specs.Minimal.{Among}
use Rattle.logic.specs.Options.{Row}

-- an atom is true, or is false; a choice is made at a place, counted from 0, or is not
pub data Literal : Type 0 where
  is_true is_false : ℕ → Literal
  chosen not_chosen : ℕ → ℕ → Literal

-- the atom `head` is true where every literal of the body is
pub record Rule : Type 0 where
  pub head : ℕ
  pub body : List Literal

-- the atom a stands in the body
abbrev pub Uses : List Literal → ℕ → Type 0
Uses body a = Among body (is_true a) ⊎ Among body (is_false a)

-- every atom in a body is lower than the head
abbrev pub Layered : List Rule → Type 0
Layered rules = (r : Rule) (a : ℕ) → Among rules r → Uses r.body a → a < r.head

-- a literal in the world w, where the atoms are as v says
abbrev pub true_in : Row → (ℕ → Bool) → Literal → Bool
true_in w v (is_true a) = v a
true_in w v (is_false a) = not (v a)
true_in w v (chosen place n) = slice_index w place == n
true_in w v (not_chosen place n) = not (slice_index w place == n)

-- all literals of some rule's body for a are true
abbrev pub Derived : List Rule → Row → (ℕ → Bool) → ℕ → Type 0
Derived rules w v a = (r : Rule) × Among rules r × (r.head ≡ a) × ((l : Literal) → Among r.body l → true_in w v l ≡ true)

-- an atom is true exactly if it is derived
abbrev pub Stable : List Rule → Row → (ℕ → Bool) → Type 0
Stable rules w v = (a : ℕ) → (v a ≡ true) ↔ Derived rules w v a

-- the same as tests
unfoldable pub all_true : Row → (ℕ → Bool) → List Literal → Bool
all_true w v [] = true
all_true w v (l ∷ ls) = true_in w v l && all_true w v ls

unfoldable pub some_true : Row → (ℕ → Bool) → List Rule → Bool
some_true w v [] = false
some_true w v (r ∷ rs) = all_true w v r.body || some_true w v rs

-- the rules whose head is a, in order
abbrev pub rules_for : List Rule → ℕ → List Rule
rules_for rules a = filter (λ r. nat_eq r.head a) rules

abbrev pub derived : List Rule → Row → (ℕ → Bool) → ℕ → Bool
derived rules w v a = some_true w v (rules_for rules a)

-- what n rounds of derivation say, from the start at which no atom is true
unfoldable pub settled : List Rule → Row → ℕ → ℕ → Bool
settled rules w zero a = false
settled rules w (suc n) a = derived rules w (settled rules w n) a

-- an atom needs no more rounds than there are atoms up to it
unfoldable pub truth : List Rule → Row → ℕ → Bool
truth rules w a = settled rules w (suc a) a

-- every rule of `held` is among the rules, and every rule has one of `held` for the same atom that asks no other literals
pub record StandsFor (held rules : List Rule) : Type 0 where
  pub sound : (r : Rule) → Among held r → Among rules r
  pub enough : (r : Rule) → Among rules r → (s : Rule) × Among held s × (s.head ≡ r.head) × ((l : Literal) → Among s.body l → Among r.body l)

-- The theorems. The truth is stable,
abbrev pub TruthStable : Type 0
TruthStable = (rules : List Rule) (w : Row) → Layered rules → Stable rules w (truth rules w)

-- nothing else is,
abbrev pub TruthOnly : Type 0
TruthOnly = (rules : List Rule) (w : Row) (v : ℕ → Bool) → Layered rules → Stable rules w v → (a : ℕ) → v a ≡ truth rules w a

-- and rules that stand for others say the same
abbrev pub TruthAlike : Type 0
TruthAlike = (held rules : List Rule) (w : Row) (a : ℕ) → Layered rules → StandsFor held rules → truth held w a ≡ truth rules w a
