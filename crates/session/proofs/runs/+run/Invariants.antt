use Rattle.std.proofs.Common.{◌≡◌, ◌+◌, ◌*◌, ◌≤◌, length}
use Rattle.model.specs.Journal.{Journal, Agrees}
use Rattle.session.specs.Running.{left, place, Reached}
use Rattle.session.proofs.runs.+run.Given as goal

abbrev pub decreases-make : goal.decreases-make
decreases-make l = 2 * length (left l.calls.now) + 1

abbrev pub decreases-run_within : goal.decreases-run_within
decreases-run_within l = 2 * length (left l.calls.now)

abbrev pub invariant-run_within-loop-at : goal.invariant-run_within-loop-at
invariant-run_within-loop-at l =
    (goal.iterator-run_within-loop-at).can_next l.calls × (goal.iterator-run_within-loop-at).is_finite l.calls
    × record {
      same : l.suppositions ≡ l.initial.suppositions;
      come : length (left l.calls) ≤ length (left l.initial.calls);
      counted : place l.calls + length (left l.calls) ≡ place l.initial.calls + length (left l.initial.calls);
      reached : (j : Journal) → Agrees j l.initial.model l.initial.suppositions → Reached j (λ k. k) (left l.initial.calls) (left l.calls) (place l.initial.calls) (place l.calls) l.initial.accepted l.accepted l.model l.suppositions;
    }
