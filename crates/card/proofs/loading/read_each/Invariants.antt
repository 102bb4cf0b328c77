use Rattle.card.proofs.Decoding.{Filling}
use Rattle.card.proofs.loading.read_each.Given as goal

abbrev pub invariant-loop-i : goal.invariant-loop-i
invariant-loop-i g l = Filling g.T.Packed.unpacked g.row.N l.bytes l.places l.i
