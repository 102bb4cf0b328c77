use Rattle.std.proofs.Common.{rules, tests, ◌≡◌, ◌∙◌}
use Rattle.std.specs.List.{position_or_len}
use Rattle.std.proofs.lemmas.Iterator.{YieldsList-from_slice}
use Rattle.std.proofs.lemmas.Iterator.Search.{position_from_yields_List}
use Rattle.rows.proofs.Chains.{position_found, spared_before}
use Rattle.rows.proofs.list.first_above.Goals as goal

pub returns-clause-stay : goal.returns-clause-stay
returns-clause-stay g c =
    let below = g.T.Ordered.below in
    let x = c.args.x.now in
    let held = c.args.held.now in
    let found = position_from_yields_List (below x) _ _ c.position.result c.position.ensures.ran (YieldsList-from_slice held c.iter.ensures.rest) (λ y b q k. search (rules, tests)) in
    let is : c.unwrap_or.result ≡ position_or_len (below x) held = c.unwrap_or.ensures ∙ position_found (below x) held c.position.result found in
    rw is (spared_before below x held)
