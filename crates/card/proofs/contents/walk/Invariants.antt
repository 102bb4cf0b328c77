use Rattle.std.proofs.Common.{◌-◌, length}
use Rattle.card.proofs.Walks.{Sofar}
use Rattle.card.proofs.contents.walk.Given as goal

abbrev pub invariant-loop-contents : goal.invariant-loop-contents
invariant-loop-contents l = Sofar l.card l.reader.card.now l.reader.offset l.contents

abbrev pub decreases-loop-contents : goal.decreases-loop-contents
decreases-loop-contents l = length l.card - l.reader.offset
