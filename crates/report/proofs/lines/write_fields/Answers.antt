use Rattle.std.proofs.Common.{◌∷◌, [], ◌++◌, decimal, refl, subst, arith}
use Rattle.std.specs.List.{flat_map}
use Rattle.rows.specs.Lending.{Grown}
use Rattle.rows.proofs.Lends.{grown_none, grown_more, grown_refused}
use Rattle.card.proofs.Writes.{grown_err, refused_more, writing_more, writing_all, writing_refused}
use Rattle.report.specs.declared.lines.Field.TheVariants.{Number}
use Rattle.report.proofs.Spaces.{field_bytes, spaced_is}
use Rattle.report.proofs.lines.write_fields.Goals as goal

pub loop-field-init : goal.loop-field-init
loop-field-init c = grown_none c.write_number.new.report

pub returns-in_err-write_field : goal.returns-in_err-write_field
returns-in_err-write_field c =
    let fields = c.args.fields.now in
    let start = c.args.report.now in
    let one = c.write_number.new.report in
    let two = c.write_field.new.report in
    let all = flat_map field_bytes fields in
    subst (λ rest. Grown start two (decimal c.args.atom ++ rest) c.from_residual-in_err-write_field.result) (spaced_is fields)
    (grown_err start two (decimal c.args.atom ++ (all ++ (10 ∷ []))) c.from_residual-in_err-write_field.result c.from_residual-in_err-write_field.ensures.0
    (refused_more start one two (decimal c.args.atom) (all ++ (10 ∷ [])) c.in_ok-write_number.ensures
    (grown_refused one two all (10 ∷ [])
    (writing_refused field_bytes fields c.loop-field.field-index one c.loop-field.report c.loop-field.invariant two (Number 0) _ refl (omega arith) c.in_err-write_field.ensures))))

pub loop-field-preserved : goal.loop-field-preserved
loop-field-preserved c = writing_more field_bytes c.args.fields.now c.loop-field.field-index c.write_number.new.report c.loop-field.report c.loop-field.invariant c.write_field.new.report (Number 0) _ refl (omega arith) c.in_ok-write_field.ensures

pub returns : goal.returns
returns c =
    let fields = c.args.fields.now in
    let start = c.args.report.now in
    let one = c.write_number.new.report in
    let two = c.loop-field.report in
    let three = c.push.new.self in
    let all = flat_map field_bytes fields in
    let written = writing_all field_bytes fields c.loop-field.field-index one two c.loop-field.invariant (omega arith) in
    subst (λ rest. Grown start three (decimal c.args.atom ++ rest) c.push.result) (spaced_is fields)
    (grown_more start one three (decimal c.args.atom) (all ++ (10 ∷ [])) c.push.result c.in_ok-write_number.ensures (grown_more one two three all (10 ∷ []) c.push.result written c.push.ensures.grown))
