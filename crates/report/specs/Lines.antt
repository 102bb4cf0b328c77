-- The bytes of a report's line.
use Rattle.std.specs.Prelude.{ℕ, ◌≤◌, List, [], ◌∷◌, ◌++◌, codes, decimal}
use Rattle.model.specs.Refusals.{number, place}
use Rattle.weighing.specs.Efforts.{effort_text}
use Rattle.report.specs.declared.lines.Line.{Line}
use Rattle.report.specs.declared.lines.Line.TheVariants.{Weighed, Refused}

-- each field behind a space, and behind the last the byte that ends a line
abbrev pub spaced : List (List ℕ) → List ℕ
spaced [] = 10 ∷ []
spaced (field ∷ fields) = 32 ∷ (field ++ spaced fields)

-- the atom, how many rows explain it and how many its negation, then for and against, counted and as an effort;
-- or the atom, the word, the refusal's number and its place
abbrev pub line_bytes : Line → List ℕ
line_bytes (Weighed atom own negated counting effort) =
    decimal atom ++ spaced (decimal own ∷ decimal negated ∷ decimal counting.goal.0 ∷ decimal counting.against.0 ∷ effort_text effort.goal ∷ effort_text effort.against ∷ [])
line_bytes (Refused atom refusal) = decimal atom ++ spaced (codes "refused" ∷ decimal (number refusal) ∷ decimal (place refusal) ∷ [])

-- lists of at most 64 rows, and a place of at most 255
abbrev pub Small : Line → Type 0
Small (Weighed atom own negated counting effort) = (own ≤ 64) × (negated ≤ 64)
Small (Refused atom refusal) = place refusal ≤ 255
