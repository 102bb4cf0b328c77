use Rattle.std.proofs.Common.{◌+◌, ◌<◌, ◌^◌, length}
use Rattle.model.specs.Journal.{fresh}
use Rattle.session.specs.Running.{left, place, Reached}
use Rattle.session.proofs.runs.replay.Given as goal

abbrev pub invariant-loop-at : goal.invariant-loop-at
invariant-loop-at l =
    (goal.iterator-loop-at).can_next l.rest × (goal.iterator-loop-at).is_finite l.rest
    × record {
      room : place l.rest + length (left l.rest) < 2 ^ 64;
      reached : Reached fresh (λ k. k) l.calls (left l.rest) 0 (place l.rest) l.initial.accepted l.accepted l.model l.suppositions;
    }
