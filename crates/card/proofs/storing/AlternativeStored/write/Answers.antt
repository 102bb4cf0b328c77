use Rattle.std.proofs.Common.{OnOk, ◌∷◌, [], ◌++◌, length, codes, ap, subst, arith}
use Rattle.std.specs.List.{flat_map}
use Rattle.rows.specs.Lending.{Grown}
use Rattle.rows.proofs.Lends.{grown_more}
use Rattle.card.specs.Storing.{weight_bytes, Fit}
use Rattle.card.proofs.Stores.{alternative_parts}
use Rattle.card.proofs.storing.AlternativeStored.write.Goals as goal

pub overflow_cast-weights : goal.overflow_cast-weights
overflow_cast-weights c = let count = ap length c.weights-weights.ensures in omega (arith, c.requires)

pub returns-clause-grown : goal.returns-clause-grown
returns-clause-grown c =
    let ws = c.weights-weights.result.now in
    let bytes = flat_map weight_bytes ws in
    let start = c.args.card.now in
    let one = c.extend_from_slice.new.self in
    let two = c.write_each.new.card in
    subst (λ all. Grown start two all c.write_each.result) (alternative_parts c.args.self.now ws c.weights-weights.ensures)
    (grown_more start one two (codes "AL" ++ (length ws ∷ [])) bytes c.write_each.result c.in_ok-extend_from_slice.ensures.grown c.write_each.ensures.grown)

pub returns-clause-fits : goal.returns-clause-fits
returns-clause-fits c = subst (λ ws. OnOk c.write_each.result (Fit ws)) c.weights-weights.ensures c.write_each.ensures.fits
