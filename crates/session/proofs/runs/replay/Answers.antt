use Rattle.std.proofs.Common.{ap, arith, inl, length}
use Rattle.session.proofs.Flags.{run_flags}
use Rattle.session.proofs.Steps.{run_done, run_over, run_on, ending_nothing}
use Rattle.session.proofs.runs.replay.Goals as goal

pub returns-in-Break-clause-accepted : goal.returns-in-Break-clause-accepted
returns-in-Break-clause-accepted c =
    let came = c.in-Some.ensures.steps in
    run_flags (run_over c.loop-at.invariant.2.reached came.0 came.1 c.in-Break.ensures.ran)

pub loop-at-preserved : goal.loop-at-preserved
loop-at-preserved c =
    let inv = c.loop-at.invariant.2 in
    let came = c.in-Some.ensures.steps in
    let told = c.in_default-made.ensures in (
      (tt, tt, inl (omega (arith, inv.room, told.stopped, ap length came.0, came.1))),
      tt,
      record {
        room = omega (arith, inv.room, told.stopped, ap length came.0, came.1);
        reached = run_on inv.reached came.0 came.1 (λ k. k) told.ran (λ k h. ending_nothing _ k h);
      },
    )

pub returns-clause-accepted : goal.returns-clause-accepted
returns-clause-accepted c = run_flags (run_done c.loop-at.invariant.2.reached c.in_default.ensures.steps.0.0)
