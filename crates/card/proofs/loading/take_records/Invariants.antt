use Rattle.std.proofs.Common.{◌-◌, length}
use Rattle.card.proofs.Loads.{Coming}
use Rattle.card.proofs.loading.take_records.Given as goal

abbrev pub invariant-loop-found : goal.invariant-loop-found
invariant-loop-found l = Coming l.card l.initial.model l.reader.card.now l.reader.offset l.model

abbrev pub decreases-loop-found : goal.decreases-loop-found
decreases-loop-found l = length l.card - l.reader.offset
