-- How a field of a line is told.
use Rattle.std.specs.Prelude.{ℕ, List, decimal}
use Rattle.report.specs.declared.lines.Field.{Field}
use Rattle.report.specs.declared.lines.Field.TheVariants.{Number, Word}

-- a number in base ten, or a word as it is
abbrev pub text : Field → List ℕ
text (Number n) = decimal n
text (Word w) = w.now
