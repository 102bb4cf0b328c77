use Rattle.std.proofs.Common.{◌∷◌, [], ◌++◌, length, codes, ap, subst, arith}
use Rattle.std.specs.List.{flat_map}
use Rattle.rows.specs.Lending.{Grown}
use Rattle.rows.proofs.Lends.{grown_more}
use Rattle.card.specs.Storing.{literal_bytes}
use Rattle.card.proofs.Stores.{rule_parts}
use Rattle.card.proofs.storing.RuleStored.write.Goals as goal

pub overflow_cast-body : goal.overflow_cast-body
overflow_cast-body c = let count = ap length c.body-body.ensures in omega (arith, c.requires)

pub returns-clause-grown : goal.returns-clause-grown
returns-clause-grown c =
    let ls = c.body-body.result.now in
    let bytes = flat_map literal_bytes ls in
    let numbers = c.head.result ∷ length ls ∷ [] in
    let start = c.args.card.now in
    let one = c.extend_from_slice.new.self in
    let two = c.write_each.new.card in
    subst (λ all. Grown start two all c.write_each.result) (rule_parts c.args.self.now c.head.result ls c.head.ensures c.body-body.ensures)
    (grown_more start one two (codes "RU" ++ numbers) bytes c.write_each.result c.in_ok-extend_from_slice.ensures.grown c.write_each.ensures.grown)
