use Rattle.std.proofs.Common.{true, false, [], length, Err, sym, ap, ◌∙◌, ap₂, rules}
use Rattle.std.proofs.lemmas.Result.{err_from_is_err_and}
use Rattle.explain.specs.Explaining.{counts, rows_of, padded, explaining, enough}
use Rattle.explain.proofs.Results.{cleared, over_cleared, refused_first, worked_then, goal_atom, enough_space, explained_in}
use Rattle.explain.proofs.question.explain.Goals as goal

pub returns-in_err-judge_question : goal.returns-in_err-judge_question
returns-in_err-judge_question c =
    let m = c.args.model.now in
    let s = c.args.suppositions.now in
    let goal = c.args.goal in
    let k = length c.args.own.now in
    let l = length c.args.negated.now in
    let p = err_from_is_err_and c.from_residual.result c.from_residual.ensures.1 in
    let space = c.suffices-enough.ensures ∙ ap₂ (λ x y. enough x y (length c.args.workspace.now)) c.fill.auto.self c.fill-2.auto.self in
    let is = ap (explaining m s goal) (sym space) ∙ refused_first m s goal c.suffices-enough.result c.in_err-judge_question.field-0.0 c.in_err-judge_question.ensures in
    let own = cleared k c.empty.result c.fill.new.self c.empty.ensures (c.fill.ensures.after (λ y h. search rules)) in
    let negated = cleared l c.empty-2.result c.fill-2.new.self c.empty-2.ensures (c.fill-2.ensures.after (λ y h. search rules)) in
    let told = p.1 ∙ ap Err p.2 ∙ ap counts (sym is) in
    let first = over_cleared k [] _ own ∙ ap (λ a. padded k (rows_of false a)) (sym is) in
    let second = over_cleared l [] _ negated ∙ ap (λ a. padded l (rows_of true a)) (sym is) in
    record {
      counts = told;
      own = first;
      negated = second;
      explained = λ j g. explained_in m s goal _ j c.from_residual.result _ _ k l g told first second;
      journal = λ j g. g;
    }

pub answer-requires : goal.answer-requires
answer-requires c =
    let m = c.args.model.now in
    let s = c.args.suppositions.now in
    let h = c.in_ok-judge_question.ensures in
    let (own, negated, workspace) = enough_space m s c.args.goal c.suffices-enough.result _ _ _ c.suffices-enough.ensures h in
    record { goal = goal_atom m s c.args.goal c.suffices-enough.result h; own = own; negated = negated; workspace = workspace }

pub returns : goal.returns
returns c =
    let m = c.args.model.now in
    let s = c.args.suppositions.now in
    let goal = c.args.goal in
    let k = length c.args.own.now in
    let l = length c.args.negated.now in
    let space = c.suffices-enough.ensures ∙ ap₂ (λ x y. enough x y (length c.args.workspace.now)) c.fill.auto.self c.fill-2.auto.self in
    let is = ap (explaining m s goal) (sym space) ∙ worked_then m s goal c.suffices-enough.result c.in_ok-judge_question.ensures in
    let own = cleared k c.empty.result c.fill.new.self c.empty.ensures (c.fill.ensures.after (λ y h. search rules)) in
    let negated = cleared l c.empty-2.result c.fill-2.new.self c.empty-2.ensures (c.fill-2.ensures.after (λ y h. search rules)) in
    let told = c.answer.ensures.counts ∙ ap counts (sym is) in
    let first = c.answer.ensures.own ∙ over_cleared k _ _ own ∙ ap (λ a. padded k (rows_of false a)) (sym is) in
    let second = c.answer.ensures.negated ∙ over_cleared l _ _ negated ∙ ap (λ a. padded l (rows_of true a)) (sym is) in
    record {
      counts = told;
      own = first;
      negated = second;
      explained = λ j g. explained_in m s goal _ j c.answer.result _ _ k l g told first second;
      journal = λ j g. g;
    }
