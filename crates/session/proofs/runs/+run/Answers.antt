use Rattle.std.proofs.Common.{◌≡◌, refl, ap, length, arith, rules, inl}
use Rattle.session.specs.declared.call.Call.TheVariants.{End}
use Rattle.session.specs.Running.{ending}
use Rattle.session.proofs.Steps.{run_done, run_over, run_on, run_made, run_supposes, ending_none}
use Rattle.session.proofs.runs.+run.Goals as goal

pub make-returns-in-Suppose-clause-ran : goal.make-returns-in-Suppose-clause-ran
make-returns-in-Suppose-clause-ran t c =
    let said = c.answer-ok.ensures in
    let began = c.suppose-guard.ensures in
    λ j g. run_supposes _ _ _ g c.requires.next said.accepted said.journal c.mark.ensures c.in-Suppose.is began.journal c.run_within.result _ _ _ c.run_within.ensures.ran c.drop-guard.ensures.journal began.before (search rules)

pub make-returns-in_default : goal.make-returns-in_default
make-returns-in_default t c =
    let said = c.answer-ok.ensures in
    record {
      same = refl;
      stopped = (omega arith, omega (arith, c.requires.next));
      ran = λ j g. run_made _ _ _ g c.requires.next said.accepted said.journal c.mark.ensures c.in_default.not-Suppose;
    }

pub run_within-returns-in_err-make-clause-ran : goal.run_within-returns-in_err-make-clause-ran
run_within-returns-in_err-make-clause-ran t c =
    let came = c.in-Some.ensures.steps in
    rw c.from_residual.ensures (λ j g. run_over (c.loop-at.invariant.2.reached j g) came.0 came.1 c.in_err-make.ensures.ran)

pub run_within-returns-in-End-clause-ran : goal.run_within-returns-in-End-clause-ran
run_within-returns-in-End-clause-ran t c =
    let came = c.in-Some.ensures.steps in
    let is : c.in-Some.call.now ≡ End = cc in
    λ j g. run_on (c.loop-at.invariant.2.reached j g) came.0 came.1 _ c.in_ok-make.ensures.ran (λ k h. ap (λ call. ending call k) is)

pub run_within-loop-at-preserved : goal.run_within-loop-at-preserved
run_within-loop-at-preserved t c =
    let inv = c.loop-at.invariant.2 in
    let came = c.in-Some.ensures.steps in
    let told = c.in_ok-make.ensures in (
      (tt, tt, inl (omega (arith, c.requires, inv.counted, told.stopped, ap length came.0, came.1))),
      tt,
      record {
        same = search rules;
        come = omega (arith, inv.come, told.stopped, ap length came.0);
        counted = omega (arith, inv.counted, told.stopped, ap length came.0, came.1);
        reached = λ j g. run_on (inv.reached j g) came.0 came.1 (λ k. k) told.ran (λ k h. ending_none _ k c.in_default-call.not-End);
      },
    )

pub run_within-returns-clause-ran : goal.run_within-returns-clause-ran
run_within-returns-clause-ran t c = λ j g. run_done (c.loop-at.invariant.2.reached j g) c.in_default.ensures.steps.0.0
