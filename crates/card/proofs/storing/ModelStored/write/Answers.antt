use Rattle.std.proofs.Common.{◌++◌, codes, refl, subst}
use Rattle.std.specs.List.{flat_map, AllByRecursion}
use Rattle.std.proofs.ByRecursion.{All-map}
use Rattle.rows.specs.Lending.{Grown}
use Rattle.rows.proofs.Lends.{grown_more, grown_refused}
use Rattle.model.specs.Alternatives.{weights_of}
use Rattle.card.specs.Storing.{alternative_bytes, rule_bytes, stored, Fit}
use Rattle.card.proofs.Stores.{stored_parts, few_weights, few_literals}
use Rattle.card.proofs.Writes.{Refused, grown_err, on_ok, refused_more}
use Rattle.card.proofs.storing.ModelStored.write.Goals as goal

pub write_each-requires : goal.write_each-requires
write_each-requires c = few_weights c.args.self.now _ _ c.alternatives.ensures refl

pub write_each-requires-2 : goal.write_each-requires-2
write_each-requires-2 c = few_literals c.args.self.now _ _ c.alternatives.ensures c.rules.ensures

pub returns-in_err-write_each-clause-grown : goal.returns-in_err-write_each-clause-grown
returns-in_err-write_each-clause-grown c =
    let m = c.args.self.now in
    let first = flat_map alternative_bytes c.alternatives.result.now in
    let start = c.args.card.now in
    let one = c.write_each.new.card in
    grown_err start one (stored m) c.from_residual.result c.from_residual.ensures.0
    (subst (Refused start one) (stored_parts m _ _ c.alternatives.ensures refl) (grown_refused start one first _ c.in_err-write_each.ensures.grown))

pub returns-in_err-write_each-2-clause-grown : goal.returns-in_err-write_each-2-clause-grown
returns-in_err-write_each-2-clause-grown c =
    let m = c.args.self.now in
    let first = flat_map alternative_bytes c.alternatives.result.now in
    let second = flat_map rule_bytes c.rules.result.now in
    let start = c.args.card.now in
    let one = c.write_each.new.card in
    let two = c.write_each-2.new.card in
    grown_err start two (stored m) c.from_residual-in_err-write_each-2.result c.from_residual-in_err-write_each-2.ensures.0
    (subst (Refused start two) (stored_parts m _ _ c.alternatives.ensures c.rules.ensures)
    (refused_more start one two first (second ++ codes "EN") c.in_ok-write_each.ensures.grown (grown_refused one two second (codes "EN") c.in_err-write_each-2.ensures.grown)))

pub returns-clause-grown : goal.returns-clause-grown
returns-clause-grown c =
    let m = c.args.self.now in
    let first = flat_map alternative_bytes c.alternatives.result.now in
    let second = flat_map rule_bytes c.rules.result.now in
    let start = c.args.card.now in
    let one = c.write_each.new.card in
    let two = c.write_each-2.new.card in
    let three = c.extend_from_slice.new.self in
    let answer = c.extend_from_slice.result in
    subst (λ all. Grown start three all answer) (stored_parts m _ _ c.alternatives.ensures c.rules.ensures)
    (grown_more start one three first (second ++ codes "EN") answer c.in_ok-write_each.ensures.grown (grown_more one two three second (codes "EN") answer c.in_ok-write_each-2.ensures.grown c.extend_from_slice.ensures.grown))

pub returns-clause-fits : goal.returns-clause-fits
returns-clause-fits c = on_ok c.extend_from_slice.result (subst (AllByRecursion Fit) c.alternatives.ensures (All-map Fit weights_of c.alternatives.result.now c.in_ok-write_each.ensures.fits))
