use Rattle.std.proofs.Common.{◌≤◌, ◌∷◌, [], ◌++◌, length, decimal, codes, sym, ap, ◌∙◌, subst, arith}
use Rattle.rows.specs.Lending.{Grown}
use Rattle.report.specs.Lines.{line_bytes, spaced}
use Rattle.report.proofs.Sizes.{weighed_sizes, weighed_length, refused_sizes, refused_length}
use Rattle.report.proofs.Spaces.{fits_most}
use Rattle.report.proofs.lines.write_line.Goals as goal

pub returns-in-Weighed : goal.returns-in-Weighed
returns-in-Weighed c =
    let w = c.in-Weighed in
    let sizes = weighed_sizes w.is c.requires (omega arith) in
    let a = c.into.ensures in
    let b = c.into-in-Weighed.ensures in
    let d = c.into-in-Weighed-2.ensures in
    let e = c.into-in-Weighed-3.ensures in
    let whole = ap (λ l. length (line_bytes l)) w.is ∙ weighed_length w.atom w.own w.negated w.counting w.effort in
    let short : length (line_bytes c.args.line.now) ≤ 75 = omega (arith, ap length a.0, ap length b.0, ap length d.0, ap length e.0) in
    let same = (λ i. decimal w.atom ++ spaced (decimal w.own ∷ decimal w.negated ∷ a.0 i ∷ b.0 i ∷ d.0 i ∷ e.0 i ∷ [])) ∙ ap line_bytes (sym w.is) in
    let grown = subst (λ bs. Grown c.args.report.now c.write_fields.new.report bs c.write_fields.result) same c.write_fields.ensures in
    record { short = short; grown = grown; fits = fits_most 75 c.args.report.now c.write_fields.new.report (line_bytes c.args.line.now) c.write_fields.result grown short }

pub returns-in-Refused : goal.returns-in-Refused
returns-in-Refused c =
    let r = c.in-Refused in
    let answer = c.write_fields-in-Refused in
    let sizes = refused_sizes r.is c.requires (omega arith) in
    let whole = ap (λ l. length (line_bytes l)) r.is ∙ refused_length r.atom r.refusal in
    let short : length (line_bytes c.args.line.now) ≤ 75 = omega arith in
    let number = c.number.ensures in
    let place = c.place.ensures in
    let same = (λ i. decimal r.atom ++ spaced (codes "refused" ∷ decimal (number i) ∷ decimal (place i) ∷ [])) ∙ ap line_bytes (sym r.is) in
    let grown = subst (λ bs. Grown c.args.report.now answer.new.report bs answer.result) same answer.ensures in
    record { short = short; grown = grown; fits = fits_most 75 c.args.report.now answer.new.report (line_bytes c.args.line.now) answer.result grown short }
