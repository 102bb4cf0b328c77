use Rattle.std.proofs.Common.{sym, subst, arith}
use Rattle.std.specs.List.{flat_map, AllByRecursion}
use Rattle.std.proofs.ByRecursion.{All-more}
use Rattle.std.proofs.lemmas.List.{take_all}
use Rattle.rows.proofs.Lends.{grown_none}
use Rattle.card.proofs.Writes.{grown_err, writing_more, writing_all, writing_refused}
use Rattle.card.proofs.storing.write_each.Goals as goal

pub loop-x-init : goal.loop-x-init
loop-x-init g c = record { written = grown_none c.args.card.now; fits = tt }

pub write-requires : goal.write-requires
write-requires g c = subst g.T.Stored.few (sym c.x-item.is) (c.requires c.loop-x.x-index c.x-item.result (omega arith))

pub returns-in_err-write-clause-grown : goal.returns-in_err-write-clause-grown
returns-in_err-write-clause-grown g c =
    grown_err c.args.card.now c.write.new.card (flat_map g.T.Stored.bytes c.args.each.now) c.from_residual.result c.from_residual.ensures.0
    (writing_refused g.T.Stored.bytes c.args.each.now c.loop-x.x-index c.args.card.now c.loop-x.card c.loop-x.invariant.written c.write.new.card c.x-item.result c.x-item.result c.x-item.is (omega arith) c.in_err-write.ensures.grown)

pub loop-x-preserved : goal.loop-x-preserved
loop-x-preserved g c = record {
  written = writing_more g.T.Stored.bytes c.args.each.now c.loop-x.x-index c.args.card.now c.loop-x.card c.loop-x.invariant.written c.write.new.card c.x-item.result c.x-item.result c.x-item.is (omega arith) c.in_ok-write.ensures.grown;
  fits = All-more g.T.Stored.fits c.args.each.now c.loop-x.x-index c.x-item.result (omega arith) c.loop-x.invariant.fits (subst g.T.Stored.fits c.x-item.is c.in_ok-write.ensures.fits);
}

pub returns : goal.returns
returns g c = record {
  grown = writing_all g.T.Stored.bytes c.args.each.now c.loop-x.x-index c.args.card.now c.loop-x.card c.loop-x.invariant.written (omega arith);
  fits = subst (AllByRecursion g.T.Stored.fits) (take_all c.loop-x.x-index c.args.each.now (omega arith)) c.loop-x.invariant.fits;
}
