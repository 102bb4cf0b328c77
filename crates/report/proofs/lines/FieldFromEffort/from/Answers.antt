use Rattle.std.proofs.Common.{sym, ap, arith}
use Rattle.weighing.specs.Efforts.{effort_text}
use Rattle.report.proofs.Sizes.{size_minutes}
use Rattle.report.proofs.lines.FieldFromEffort.from.Goals as goal

pub returns-in-Minutes : goal.returns-in-Minutes
returns-in-Minutes c = (ap effort_text (sym c.in-Minutes.is), size_minutes c.in-Minutes.minutes (omega arith))
