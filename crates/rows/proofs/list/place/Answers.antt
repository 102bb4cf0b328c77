use Rattle.std.proofs.Common.{rules, tests, ◌≡◌, ◌∙◌}
use Rattle.std.specs.List.{position_or_len}
use Rattle.std.proofs.lemmas.Iterator.{YieldsList-from_slice}
use Rattle.std.proofs.lemmas.Iterator.Search.{position_from_yields_List}
use Rattle.rows.proofs.Chains.{position_found, placed_first}
use Rattle.rows.proofs.list.place.Goals as goal

pub returns-clause-there : goal.returns-clause-there
returns-clause-there g c =
    let before = g.T.Ordered.before in
    let x = c.args.x.now in
    let held = c.args.held.now in
    let found = position_from_yields_List (before x) _ _ c.position.result c.position.ensures.ran (YieldsList-from_slice held c.iter.ensures.rest) (λ y b q k. search (rules, tests)) in
    let is : c.unwrap_or.result ≡ position_or_len (before x) held = c.unwrap_or.ensures ∙ position_found (before x) held c.position.result found in
    rw is (placed_first before x held)
