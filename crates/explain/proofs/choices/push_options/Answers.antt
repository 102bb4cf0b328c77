use Rattle.std.proofs.Common.{◌≡◌, ◌<◌, true, filter, set, sym, ap, ◌∙◌, rules}
use Rattle.std.proofs.lemmas.Result.{err_from_is_err_and}
use Rattle.explain.specs.Lists.{lone, alone_rows}
use Rattle.explain.specs.Options.{numbers_in}
use Rattle.explain.proofs.Appends.{begun_none, begun_all, begun_skip, begun_next, begun_full}
use Rattle.explain.proofs.Ranges.{numbers_next, numbers_end}
use Rattle.explain.proofs.choices.push_options.Goals as goal

pub loop-option-init : goal.loop-option-init
loop-option-init g c = (
  search rules,
  search rules,
  λ p a.
      begun_none c.args.place p _ c.args.list.now c.args.list.now _
      (ap (λ ns. alone_rows c.args.place (filter p ns)) (ap numbers_in c.into_iter-option-iterator.ensures.into_iter_gives ∙ sym c.options_at-option-items.ensures.are)),
)

pub loop-option-preserved-in-Continue-1 : goal.loop-option-preserved-in-Continue-1
loop-option-preserved-in-Continue-1 g c = (
  search rules,
  search rules,
  λ p a.
      let n = c.in-Some.option in
      let fits : n < 256 = search rules in
      let next = numbers_next c.loop-option.option-iterator c.next.new.self n c.in-Some.ensures.steps in
      let alone : c.with.result.choices ≡ lone c.args.place n = ◌∙◌ {b = set c.empty.result.choices c.args.place n} c.with.ensures (ap (λ cs. set cs c.args.place n) c.empty.ensures) in
      let passes : p n ≡ true = ◌∙◌ {b = c.wanted.result} (sym (a n c.wanted.result fits c.wanted.ensures)) c.if-wanted.true in
      begun_next c.args.place p _ c.args.list.now c.loop-option.list n _ _ next c.push.new.self c.with.result
      alone passes c.in_ok-push.ensures.grown (c.loop-option.invariant.2 p a),
)

pub returns-in_err-push : goal.returns-in_err-push
returns-in_err-push g c = λ p a.
    let n = c.in-Some.option in
    let fits : n < 256 = search rules in
    let next = numbers_next c.loop-option.option-iterator c.next.new.self n c.in-Some.ensures.steps in
    let e = err_from_is_err_and c.from_residual.result c.from_residual.ensures.1 in
    let alone : c.with.result.choices ≡ lone c.args.place n = ◌∙◌ {b = set c.empty.result.choices c.args.place n} c.with.ensures (ap (λ cs. set cs c.args.place n) c.empty.ensures) in
    let passes : p n ≡ true = ◌∙◌ {b = c.wanted.result} (sym (a n c.wanted.result fits c.wanted.ensures)) c.if-wanted.true in
    rw e.1 (begun_full c.args.place p _ c.args.list.now c.loop-option.list n _ _ next c.push.new.self c.with.result
    alone passes c.in_err-push.ensures.grown (c.loop-option.invariant.2 p a))

pub loop-option-preserved : goal.loop-option-preserved
loop-option-preserved g c = (
  search rules,
  search rules,
  λ p a.
      let n = c.in-Some.option in
      let fits : n < 256 = search rules in
      let next = numbers_next c.loop-option.option-iterator c.next.new.self n c.in-Some.ensures.steps in
      begun_skip c.args.place p _ c.args.list.now c.loop-option.list n _ _ next (◌∙◌ {b = c.wanted.result} (sym (a n c.wanted.result fits c.wanted.ensures)) c.if-wanted.false) (c.loop-option.invariant.2 p a),
)

pub returns : goal.returns
returns g c = λ p a. begun_all c.args.place p _ c.args.list.now c.loop-option.list _ (numbers_end c.loop-option.option-iterator c.next.new.self c.in-None.ensures.steps) (c.loop-option.invariant.2 p a)
