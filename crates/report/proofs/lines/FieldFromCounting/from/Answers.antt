use Rattle.std.proofs.Common.{refl, arith}
use Rattle.report.proofs.Sizes.{size_any}
use Rattle.report.proofs.lines.FieldFromCounting.from.Goals as goal

pub returns : goal.returns
returns c = (refl, size_any c.args.counting.0 (omega arith))
