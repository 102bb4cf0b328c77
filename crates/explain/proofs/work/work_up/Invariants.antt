use Rattle.std.proofs.Common.{◌≡◌, ◌+◌, ◌*◌, ◌≤◌, map, length}
use Rattle.model.specs.Meaning.{held_rules}
use Rattle.explain.specs.Lists.{lists_in}
use Rattle.explain.specs.Marks.{marked}
use Rattle.explain.specs.Options.{options_of}
use Rattle.explain.proofs.Upward.{Upto}
use Rattle.explain.proofs.work.work_up.Given as goal

abbrev pub invariant-loop-atom : goal.invariant-loop-atom
invariant-loop-atom l = record {
  room : 50 ≤ length l.places + 2 * l.atom-counter;
  size : length l.lists ≡ 25;
  upto : Upto (options_of l.board) (held_rules l.board.model.now) (marked l.marks) l.atom-counter (map lists_in l.lists);
}
