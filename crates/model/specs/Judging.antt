-- Which literals and bodies a model takes. `sizes` are the numbers of choices of the alternatives, in order.
use Rattle.std.specs.Prelude.{ℕ, ◌+◌, ◌-◌, Bool, true, cond, not, ◌&&◌, ◌||◌, List, [], ◌∷◌, length, Some, None, Option, ◌==◌, nat_le, slice_index}
use Rattle.model.specs.declared.literal.Literal.{Literal}
use Rattle.model.specs.declared.refusal.Refusal.{Refusal}
use Rattle.model.specs.declared.refusal.Refusal.TheVariants.{NoAtom, NumberOfLiterals, NoLiteral, NotLower, ShortSpace, NotDeclared, ForeignSupposition}
use Rattle.model.specs.Refusals.{smaller}

-- atoms are 1 to 24
abbrev pub is_atom : ℕ → Bool
is_atom a = nat_le 1 a && nat_le a 24

-- alternatives and their choices count from 1
abbrev pub is_declared : List ℕ → ℕ → ℕ → Bool
is_declared sizes alternative choice = nat_le 1 alternative && (nat_le alternative (length sizes) && (nat_le 1 choice && nat_le choice (slice_index sizes (alternative - 1))))

-- an atom's refusal: its number, its second byte, and whether it is lower than the head
abbrev pub judge_atom : ℕ → ℕ → ℕ → ℕ → Option Refusal
judge_atom head at atom second =
    cond (not (is_atom atom)) (Some (NoAtom at))
    (cond (not (second == 0)) (Some (NoLiteral at))
    (cond (nat_le head atom) (Some (NotLower at)) None))

-- a choice's refusal
abbrev pub judge_choice : List ℕ → ℕ → ℕ → ℕ → Option Refusal
judge_choice sizes at alternative choice = cond (is_declared sizes alternative choice) None (Some (NotDeclared at))

-- the smallest refusal that the literal at a place of a body meets: kinds 0 and 1 are atoms, 2 and 3 choices
abbrev pub judge_literal : List ℕ → ℕ → ℕ → Literal → Option Refusal
judge_literal sizes head at l =
    cond (nat_le l.kind 1) (judge_atom head at l.first l.second)
    (cond (nat_le l.kind 3) (judge_choice sizes at l.first l.second) (Some (NoLiteral at)))

-- the head's refusal, and that of a body that is too long
abbrev pub judge_head : ℕ → Option Refusal
judge_head head = cond (is_atom head) None (Some (NoAtom 0))

abbrev pub judge_length : List Literal → Option Refusal
judge_length body = cond (nat_le (length body) 8) None (Some NumberOfLiterals)

-- the smallest of those so far and those of the literals from a place on
abbrev pub judge_from : Option Refusal → List ℕ → ℕ → ℕ → List Literal → Option Refusal
judge_from found sizes head at [] = found
judge_from found sizes head at (l ∷ ls) = judge_from (smaller found (judge_literal sizes head at l)) sizes head (at + 1) ls

-- the smallest refusal that a rule meets, before it is put to the others
abbrev pub judge_rule : List ℕ → ℕ → List Literal → Option Refusal
judge_rule sizes head body = judge_from (smaller (judge_head head) (judge_length body)) sizes head 1 body

-- a goal is judged as a literal of a rule whose head is above all atoms, at place 0
abbrev pub judge_goal : List ℕ → Literal → Option Refusal
judge_goal sizes goal = judge_literal sizes 25 0 goal

-- every alternative from a number on is supposed at a declared choice, or not at all
abbrev pub all_declared : List ℕ → ℕ → List ℕ → Bool
all_declared sizes alternative [] = true
all_declared sizes alternative (choice ∷ choices) = (choice == 0 || is_declared sizes alternative choice) && all_declared sizes (alternative + 1) choices

abbrev pub judge_suppositions : List ℕ → List ℕ → Option Refusal
judge_suppositions sizes supposed = cond (all_declared sizes 1 supposed) None (Some ForeignSupposition)

abbrev pub judge_space : Bool → Option Refusal
judge_space enough = cond enough None (Some ShortSpace)

-- the smallest refusal that a question meets before it is worked: its goal's, that of the space lent to it, that of the suppositions
abbrev pub judge_question : List ℕ → List ℕ → Literal → Bool → Option Refusal
judge_question sizes supposed goal enough = smaller (judge_goal sizes goal) (smaller (judge_space enough) (judge_suppositions sizes supposed))
