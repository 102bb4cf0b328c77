use Rattle.std.proofs.Common.{◌≡◌, Bool, true, false, cond, not, Some, None, Ok, refl, ap, ◌∙◌}
use Rattle.std.specs.Bool.{then_some}
use Rattle.model.specs.declared.refusal.Refusal.TheVariants.{ForeignSupposition, ShortSpace}
use Rattle.model.specs.Models.{judged}
use Rattle.model.specs.Refusals.{smaller}
use Rattle.model.proofs.model.Model.judge_question.Goals as goal

some_unless : {X : Type 0} (b : Bool) (x : X) → then_some (not b) x ≡ cond b None (Some x)
some_unless true x = refl
some_unless false x = refl

pub returns : goal.returns
returns c =
    let space = c.then_some-space.ensures ∙ some_unless c.args.enough ShortSpace in
    let foreign = c.then_some-foreign.ensures ∙ some_unless c.are_declared.result ForeignSupposition ∙ ap (λ b. cond b None (Some ForeignSupposition)) c.are_declared.ensures in
    let rest = c.smaller.ensures ∙ (λ i. smaller (space i) (foreign i)) in
    c.answer.ensures ∙ ap (λ o. judged o (Ok tt)) (c.smaller-2.ensures ∙ (λ i. smaller (c.judge_literal-goal.ensures i) (rest i)))
