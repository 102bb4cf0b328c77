use Rattle.std.proofs.Common.{◌≡◌, ◌<◌, true, ◌||◌, length, get_or, set, sym, ap, ◌∙◌, arith}
use mathlib.Core.Bool.{or-false}
use Rattle.std.proofs.lemmas.List.{length-set}
use Rattle.std.proofs.lemmas.Bool.{ne_eqb}
use Rattle.model.specs.Literals.{blank_literal}
use Rattle.explain.specs.Marks.{marked}
use Rattle.explain.proofs.Marking.{of_atom, of_choice, uses_all, body_marks, body_passes}
use Rattle.explain.proofs.marks.mark_body.Goals as goal
use Rattle.explain.proofs.marks.mark_body.Goals.{then-at-lt-ATOMS, else-at-lt-ATOMS}

pub loop-literal-preserved-in_default : goal.loop-literal-preserved-in_default
loop-literal-preserved-in_default c =
    let inv = c.loop-literal.invariant in
    let body = c.args.body.now in
    let i = c.loop-literal.literal-index in
    (inv.0, λ a h. body_passes c.loop-literal.marks body i c.loop-literal-test.true a (of_choice (get_or body i blank_literal) a c.in_default.ensures) ∙ inv.1 a h)

pub loop-literal-preserved : goal.loop-literal-preserved
loop-literal-preserved c =
    let inv = c.loop-literal.invariant in
    let marks = c.loop-literal.marks in
    let body = c.args.body.now in
    let i = c.loop-literal.literal-index in
    let literal = get_or body i blank_literal in
    let (kind, same) = c.in-Some.ensures in
    elim c.if-at-lt-ATOMS.branch [
      | then-at-lt-ATOMS w ↦
          let low : literal.first < length marks = omega (arith, same, inv.0, w.if-at-lt-ATOMS.true) in
          let is : c.if-at-lt-ATOMS.marks ≡ set marks literal.first true = w.marks-is ∙ ap (λ n. set marks n true) same in
          rw is (length-set marks literal.first true ∙ inv.0, λ a h. body_marks marks body i c.loop-literal-test.true a kind low ∙ inv.1 a h)
      | else-at-lt-ATOMS w ↦
          rw w.marks-is (inv.0, λ a h. body_passes marks body i c.loop-literal-test.true a (of_atom literal a kind ∙ ne_eqb literal.first a (λ e. omega (arith, same, w.if-at-lt-ATOMS.false))) ∙ inv.1 a h)
    ]

pub returns : goal.returns
returns c = λ a h.
    sym (or-false (marked c.loop-literal.marks a)) ∙ ap (λ b. marked c.loop-literal.marks a || b) (sym (uses_all c.loop-literal.marks c.args.body.now c.loop-literal.literal-index c.loop-literal-test.false a)) ∙ c.loop-literal.invariant.1 a h
