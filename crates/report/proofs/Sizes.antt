-- How many bytes a line has.
use Rattle.std.proofs.Common.{◌≡◌, ℕ, ◌+◌, ◌^◌, ◌<◌, ◌≤◌, length, decimal, subst, arith}
use Rattle.std.proofs.lemmas.Fmt.{length-decimal-le}
use Rattle.std.proofs.lemmas.List.{length-append}
use Rattle.model.specs.declared.refusal.Refusal.{Refusal}
use Rattle.model.specs.declared.refusal.Refusal.TheVariants.{NumberOfChoices, NoAtom, NumberOfLiterals, NoLiteral, NotLower, ShortSpace, ShortBuffer, NumberOfAlternatives, NotDeclared, NumberOfRules, AlreadySupposed, ForeignSupposition, TooManyRows}
use Rattle.model.specs.Refusals.{number, place}
use Rattle.weighing.specs.declared.counting.Counting.{Counting}
use Rattle.weighing.specs.declared.effort.Effort.{Effort}
use Rattle.weighing.specs.declared.weights.Weights.{Weights}
use Rattle.weighing.specs.Efforts.{effort_text}
use Rattle.report.specs.declared.lines.Line.{Line}
use Rattle.report.specs.declared.lines.Line.TheVariants.{Weighed, Refused}
use Rattle.report.specs.Lines.{line_bytes, Small}

-- how many digits a number has
abbrev pub size : ℕ → ℕ
size n = length (decimal n)

-- a length of a list, an atom, minutes, and any number
pub size_length : (n : ℕ) → n ≤ 64 → size n ≤ 2
size_length n h = length-decimal-le 2 n (omega arith) (omega arith) (omega arith)

pub size_byte : (n : ℕ) → n < 256 → size n ≤ 3
size_byte n h = length-decimal-le 3 n (omega arith) (omega arith) (omega arith)

pub size_minutes : (n : ℕ) → n < 2 ^ 32 → size n ≤ 10
size_minutes n h = length-decimal-le 10 n (omega arith) (omega arith) (omega arith)

pub size_any : (n : ℕ) → n < 2 ^ 64 → size n ≤ 20
size_any n h = length-decimal-le 20 n (omega arith) (omega arith) (omega arith)

numbered : (r : Refusal) → number r < 256
numbered NumberOfChoices = omega arith
numbered (NoAtom at) = omega arith
numbered NumberOfLiterals = omega arith
numbered (NoLiteral at) = omega arith
numbered (NotLower at) = omega arith
numbered ShortSpace = omega arith
numbered ShortBuffer = omega arith
numbered NumberOfAlternatives = omega arith
numbered (NotDeclared at) = omega arith
numbered NumberOfRules = omega arith
numbered AlreadySupposed = omega arith
numbered ForeignSupposition = omega arith
numbered (TooManyRows atom) = omega arith

-- the numbers of a small line
pub record WeighedSizes (atom own negated : ℕ) : Type 0 where
  pub atom_size : size atom ≤ 3
  pub own_size : size own ≤ 2
  pub negated_size : size negated ≤ 2

pub weighed_sizes : {line : Line} {atom own negated : ℕ} {counting : Weights Counting} {effort : Weights Effort} → line ≡ Weighed atom own negated counting effort → Small line → atom < 256 → WeighedSizes atom own negated
weighed_sizes {line} {atom} {own} {negated} is small fits =
    let few = subst Small is small in
    record { atom_size = size_byte atom fits; own_size = size_length own few.0; negated_size = size_length negated few.1 }

pub record RefusedSizes (atom : ℕ) (refusal : Refusal) : Type 0 where
  pub atom_size : size atom ≤ 3
  pub number_size : size (number refusal) ≤ 3
  pub place_size : size (place refusal) ≤ 3

pub refused_sizes : {line : Line} {atom : ℕ} {refusal : Refusal} → line ≡ Refused atom refusal → Small line → atom < 256 → RefusedSizes atom refusal
refused_sizes {line} {atom} {refusal} is small fits =
    let low = subst Small is small in
    record { atom_size = size_byte atom fits; number_size = size_byte (number refusal) (numbered refusal); place_size = size_byte (place refusal) (omega arith) }

-- the bytes of a line, field by field
pub weighed_length : (atom own negated : ℕ) (counting : Weights Counting) (effort : Weights Effort) → length (line_bytes (Weighed atom own negated counting effort))
    ≡ size atom + size own + size negated + size counting.goal.0 + size counting.against.0 + length (effort_text effort.goal) + length (effort_text effort.against) + 7
weighed_length atom own negated counting effort = simp length-append (omega arith)

pub refused_length : (atom : ℕ) (refusal : Refusal) → length (line_bytes (Refused atom refusal)) ≡ size atom + size (number refusal) + size (place refusal) + 11
refused_length atom refusal = simp length-append (omega arith)
