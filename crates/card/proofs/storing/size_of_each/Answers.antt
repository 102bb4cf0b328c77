use Rattle.std.proofs.Common.{◌<◌, ◌^◌, length, sym, ◌∙◌, rules, arith, of_calls, tests}
use Rattle.std.proofs.lemmas.Iterator.{YieldsList-from_slice, YieldsList-from_map}
use Rattle.std.proofs.lemmas.Iterator.Adapters.{serves_from_places}
use Rattle.std.proofs.lemmas.Iterator.Consumers.{YieldsList-at, sum_by_from_yields_List, fits_by_from_yields_list}
use Rattle.std.proofs.lemmas.List.Concat.{length-flat_map}
use Rattle.card.proofs.Writes.{sized_room}
use Rattle.card.proofs.storing.size_of_each.Goals as goal

pub sum-requires-clause-can : goal.sum-requires-clause-can
sum-requires-clause-can g c = (tt, serves_from_places (YieldsList-from_slice c.args.each.now cc) (λ x q h. search rules) (λ x k l is. let few : length (g.T.Stored.bytes x.now) < 2 ^ 64 = omega (arith, sized_room g.T.Stored.bytes c.args.each.now k x.now x.now is l) in search (rules, of_calls)))

pub sum-requires-clause-fits : goal.sum-requires-clause-fits
sum-requires-clause-fits g c =
    fits_by_from_yields_list (λ x. length (g.T.Stored.bytes x)) c.args.each.now c.map.result _
    (YieldsList-from_map _ (λ x. length (g.T.Stored.bytes x)) (YieldsList-at c.map.ensures.source (YieldsList-from_slice c.args.each.now cc)) c.map.ensures.closure (λ x r q k. search (rules, tests)))
    (omega (arith, length-flat_map g.T.Stored.bytes c.args.each.now))

pub returns : goal.returns
returns g c =
    sum_by_from_yields_List (λ x. length (g.T.Stored.bytes x)) c.args.each.now c.map.result c.sum.result c.sum.ensures.ran
    (YieldsList-from_map _ (λ x. length (g.T.Stored.bytes x)) (YieldsList-at c.map.ensures.source (YieldsList-from_slice c.args.each.now cc)) c.map.ensures.closure (λ x r q k. search (rules, tests)))
    ∙ sym (length-flat_map g.T.Stored.bytes c.args.each.now)
