use Rattle.card.proofs.Writes.{Writing}
use Rattle.report.proofs.Spaces.{field_bytes}
use Rattle.report.proofs.lines.write_fields.Given as goal

abbrev pub invariant-loop-field : goal.invariant-loop-field
invariant-loop-field l = Writing field_bytes l.fields l.field-index l.initial.report l.report
