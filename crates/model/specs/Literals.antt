-- Literals as given, and how they are ordered.
use Rattle.std.specs.Prelude.{ℕ, Bool, cond, ◌&&◌, List, [], ◌∷◌, Some, None, Option, ◌==◌}
use Rattle.rows.specs.Rows.{earlier}
use Rattle.model.specs.declared.literal.Kind.{Kind}
use Rattle.model.specs.declared.literal.Kind.TheVariants.{Atom, NotAtom, Choice, NotChoice}
use Rattle.model.specs.declared.literal.Literal.{Literal}

-- the kind that a number names
abbrev pub kind_of : ℕ → Option Kind
kind_of kind =
    cond (kind == 0) (Some Atom)
    (cond (kind == 1) (Some NotAtom)
    (cond (kind == 2) (Some Choice)
    (cond (kind == 3) (Some NotChoice) None)))

-- the three numbers of a literal
abbrev pub numbers : Literal → List ℕ
numbers l = l.kind ∷ l.first ∷ l.second ∷ []

-- the same three numbers
abbrev pub alike : Literal → Literal → Bool
alike l m = l.kind == m.kind && (l.first == m.first && l.second == m.second)

-- by kind, then first, then second
abbrev pub sooner : Literal → Literal → Bool
sooner l m = earlier (numbers l) (numbers m)

-- what a place without a literal holds
abbrev pub blank_literal : Literal
blank_literal = record { kind = 0; first = 0; second = 0 }
