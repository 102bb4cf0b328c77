use Rattle.std.proofs.Common.{set, ap, ◌∙◌}
use Rattle.rows.proofs.Fills.{filled_more}
use Rattle.rows.proofs.list.fill_from.Goals as goal

pub loop-place-preserved : goal.loop-place-preserved
loop-place-preserved g c = ap (λ l. set l c.loop-place.place-index c.args.x) c.loop-place.invariant ∙ filled_more c.args.x _ c.loop-place.place-index c.loop-place-test.true
