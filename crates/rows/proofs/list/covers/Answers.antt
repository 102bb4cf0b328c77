use Rattle.std.proofs.Common.{rules, tests, sym, ◌∙◌}
use Rattle.std.proofs.lemmas.Iterator.{YieldsList-from_slice}
use Rattle.std.proofs.lemmas.Iterator.Search.{any_from_yields_List}
use Rattle.rows.proofs.Chains.{covered_any}
use Rattle.rows.proofs.list.covers.Goals as goal

pub returns : goal.returns
returns g c =
    any_from_yields_List (λ y. g.T.Ordered.below y c.args.x.now) _ _ c.any.result c.any.ensures.ran (YieldsList-from_slice c.args.held.now c.iter.ensures.rest) (λ x b q k. search (rules, tests))
    ∙ sym (covered_any g.T.Ordered.below c.args.x.now c.args.held.now)
