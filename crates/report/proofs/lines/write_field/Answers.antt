use Rattle.std.proofs.Common.{◌∷◌, []}
use Rattle.rows.proofs.Lends.{grown_more}
use Rattle.report.proofs.lines.write_field.Goals as goal

pub returns-in-Number : goal.returns-in-Number
returns-in-Number c = rw c.in-Number.is (grown_more c.args.report.now c.push.new.self c.write_number.new.report (32 ∷ []) _ c.write_number.result c.in_ok-push.ensures.grown c.write_number.ensures)

pub returns-in-Word : goal.returns-in-Word
returns-in-Word c = rw c.in-Word.is (grown_more c.args.report.now c.push.new.self c.extend_from_slice.new.self (32 ∷ []) _ c.extend_from_slice.result c.in_ok-push.ensures.grown c.extend_from_slice.ensures.grown)
