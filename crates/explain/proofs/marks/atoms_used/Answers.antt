use Rattle.std.proofs.Common.{◌||◌, List, map, sym, ap, ◌∙◌}
use mathlib.Core.Bool.{or-false}
use Rattle.std.proofs.lemmas.Bool.{eq-eqb, ne_eqb}
use Rattle.logic.specs.Needed.{uses}
use Rattle.model.specs.declared.literal.Literal.{Literal}
use Rattle.model.specs.Meaning.{meaning}
use Rattle.explain.specs.Marks.{marked}
use Rattle.explain.proofs.Marking.{used_all, used_more, used_skip}
use Rattle.explain.proofs.marks.atoms_used.Goals as goal
use Rattle.explain.proofs.marks.atoms_used.Goals.{then-head-atom, else-head-atom}

pub loop-rule-preserved : goal.loop-rule-preserved
loop-rule-preserved c =
    let rs = c.args.rules.now in
    let i = c.loop-rule.rule-index in
    elim c.if-head-atom.branch [
      | then-head-atom w ↦ rw w.marks-is (λ a h.
          used_more c.args.atom rs i a c.loop-rule-test.true c.loop-rule.marks w.mark_body.new.marks (eq-eqb _ _ (sym c.head.ensures ∙ w.if-head-atom.true))
          (w.mark_body.ensures a h ∙ ap (λ (ls : List Literal). marked c.loop-rule.marks a || uses (map meaning ls) a) w.body.ensures)
          ∙ c.loop-rule.invariant a h)
      | else-head-atom w ↦ rw w.marks-is (λ a h.
          used_skip c.args.atom rs i a c.loop-rule-test.true c.loop-rule.marks (ne_eqb _ _ (λ is. w.if-head-atom.false (c.head.ensures ∙ is))) ∙ c.loop-rule.invariant a h)
    ]

pub returns : goal.returns
returns c = λ a h.
    sym (or-false (marked c.loop-rule.marks a)) ∙ ap (λ b. marked c.loop-rule.marks a || b) (sym (used_all c.args.atom c.args.rules.now c.loop-rule.rule-index a c.loop-rule-test.false)) ∙ c.loop-rule.invariant a h
