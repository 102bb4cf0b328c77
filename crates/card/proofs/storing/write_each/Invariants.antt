use Rattle.std.proofs.Common.{take}
use Rattle.std.specs.List.{AllByRecursion}
use Rattle.card.proofs.Writes.{Writing}
use Rattle.card.proofs.storing.write_each.Given as goal

abbrev pub invariant-loop-x : goal.invariant-loop-x
invariant-loop-x g l = record {
  written : Writing g.T.Stored.bytes l.each l.x-index l.initial.card l.card;
  fits : AllByRecursion g.T.Stored.fits (take l.x-index l.each);
}
