-- What each refusal has as its number and its place, and which of several is answered.
use Rattle.std.specs.Prelude.{ℕ, cond, Some, None, Option, nat_lt}
use Rattle.model.specs.declared.refusal.Refusal.{Refusal}
use Rattle.model.specs.declared.refusal.Refusal.TheVariants.{NumberOfChoices, NoAtom, NumberOfLiterals, NoLiteral, NotLower, ShortSpace, ShortBuffer, NumberOfAlternatives, NotDeclared, NumberOfRules, AlreadySupposed, ForeignSupposition, TooManyRows}

abbrev pub number : Refusal → ℕ
number NumberOfChoices = 1
number (NoAtom at) = 2
number NumberOfLiterals = 3
number (NoLiteral at) = 4
number (NotLower at) = 5
number ShortSpace = 9
number ShortBuffer = 10
number NumberOfAlternatives = 11
number (NotDeclared at) = 12
number NumberOfRules = 13
number AlreadySupposed = 14
number ForeignSupposition = 15
number (TooManyRows atom) = 16

-- the literal concerned, counted from 1, or the atom whose list is too long; 0 for the head, or where no literal is concerned
abbrev pub place : Refusal → ℕ
place NumberOfChoices = 0
place (NoAtom at) = at
place NumberOfLiterals = 0
place (NoLiteral at) = at
place (NotLower at) = at
place ShortSpace = 0
place ShortBuffer = 0
place NumberOfAlternatives = 0
place (NotDeclared at) = at
place NumberOfRules = 0
place AlreadySupposed = 0
place ForeignSupposition = 0
place (TooManyRows atom) = atom

-- the one with the smaller number, and of two with the same number the first
abbrev pub smaller : Option Refusal → Option Refusal → Option Refusal
smaller None second = second
smaller (Some a) None = Some a
smaller (Some a) (Some b) = cond (nat_lt (number b) (number a)) (Some b) (Some a)
