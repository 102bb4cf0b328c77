-- Rules, and how they are ordered.
use Rattle.std.specs.Prelude.{ℕ, ◌-◌, Bool, true, ◌&&◌, List, [], ◌∷◌, ◌++◌, length, take, drop, replicate, Some, None, Option, ◌==◌, nat_le}
use Rattle.std.specs.List.{flat_map}
use Rattle.rows.specs.Keeping.{covered, kept_all}
use Rattle.rows.specs.Rows.{earlier}
use Rattle.model.specs.declared.literal.Literal.{Literal}
use Rattle.model.specs.declared.rule.Rule.{Rule}
use Rattle.model.specs.Literals.{numbers, alike, sooner, blank_literal}

-- the literals of a rule's body, in order
abbrev pub literals : Rule → List Literal
literals r = take r.len r.body

-- each of ls is one of ms
abbrev pub subset : List Literal → List Literal → Bool
subset [] ms = true
subset (l ∷ ls) ms = covered alike ms l && subset ls ms

-- the heads are equal, and the body of r is a subset of that of s
abbrev pub rule_below : Rule → Rule → Bool
rule_below r s = r.head == s.head && subset (literals r) (literals s)

-- the head, and then the numbers of each literal
abbrev pub key : Rule → List ℕ
key r = r.head ∷ flat_map numbers (literals r)

-- by head, then literal by literal, a shorter body first
abbrev pub rule_before : Rule → Rule → Bool
rule_before r s = earlier (key r) (key s)

-- l stands before each of ms
abbrev pub leads : Literal → List Literal → Bool
leads l [] = true
leads l (m ∷ ms) = sooner l m && leads l ms

-- each literal stands before all that follow it
abbrev pub ascends : List Literal → Bool
ascends [] = true
ascends (l ∷ ls) = leads l ls && ascends ls

-- each place is blank
abbrev pub blank : List Literal → Bool
blank [] = true
blank (l ∷ ls) = alike l blank_literal && blank ls

-- the body is an ordered set in a table of eight places, and the places past it are blank
abbrev pub canonical : Rule → Bool
canonical r = length r.body == 8 && (nat_le r.len 8 && (ascends (literals r) && blank (drop r.len r.body)))

-- what a place without a rule holds
abbrev pub blank_rule : Rule
blank_rule = record { head = 0; len = 0; body = replicate 8 blank_literal }

-- what a run keeps, and nothing where it is refused
abbrev pub listing : {V : Type 0} → Option (List V) → List V
listing (Some xs) = xs
listing None = []

-- the literals that a body of up to eight names, each once and in order
abbrev pub as_set : List Literal → List Literal
as_set body = listing (kept_all alike sooner 8 [] body)

-- what is kept of rules that are put one after another: of some that none is below another, in order, all of them
abbrev pub minimal_rules : List Rule → List Rule
minimal_rules rules = listing (kept_all rule_below rule_before 128 [] rules)

-- a list in a table of eight places
abbrev pub tabled : List Literal → List Literal
tabled ls = ls ++ replicate (8 - length ls) blank_literal

-- the rule with this head and the literals of this body
abbrev pub rule_of : ℕ → List Literal → Rule
rule_of head body = record { head = head; len = length (as_set body); body = tabled (as_set body) }
