use Rattle.std.proofs.Common.{is_ok, sym, ap, ◌∙◌, arith}
use Rattle.card.proofs.Readback.{reads_back}
use Rattle.card.proofs.Stores.{stored_bounded}
use Rattle.card.proofs.Writes.{at_ok}
use Rattle.card.proofs.storing.store.Goals as goal

pub size-requires : goal.size-requires
size-requires c = let most = stored_bounded c.args.model.now in omega arith

pub returns-then-buffer-size-clause-bounded : goal.returns-then-buffer-size-clause-bounded
returns-then-buffer-size-clause-bounded c = stored_bounded c.args.model.now

pub returns-clause-bounded : goal.returns-clause-bounded
returns-clause-bounded c = stored_bounded c.args.model.now

pub returns-clause-back : goal.returns-clause-back
returns-clause-back c = λ _. reads_back c.args.model.now (at_ok c.write.result (sym c.map_err.ensures.variant ∙ ap is_ok c.in_ok-map_err.was) c.write.ensures.fits)
