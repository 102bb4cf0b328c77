use Rattle.std.proofs.Common.{refl, arith}
use Rattle.card.proofs.Stores.{stored_size}
use Rattle.card.proofs.storing.ModelStored.size.Goals as goal

pub size_of_each-requires : goal.size_of_each-requires
size_of_each-requires c = let size = stored_size c.args.self.now _ _ c.alternatives.ensures refl in omega arith

pub size_of_each-requires-2 : goal.size_of_each-requires-2
size_of_each-requires-2 c = let size = stored_size c.args.self.now _ _ c.alternatives.ensures c.rules.ensures in omega arith

pub overflow_add-result : goal.overflow_add-result
overflow_add-result c = let size = stored_size c.args.self.now _ _ c.alternatives.ensures c.rules.ensures in omega (arith, c.size_of_each.ensures, c.size_of_each-2.ensures)

pub overflow_add-result-2 : goal.overflow_add-result-2
overflow_add-result-2 c = let size = stored_size c.args.self.now _ _ c.alternatives.ensures c.rules.ensures in omega (arith, c.size_of_each.ensures, c.size_of_each-2.ensures)

pub returns : goal.returns
returns c = let size = stored_size c.args.self.now _ _ c.alternatives.ensures c.rules.ensures in omega (arith, c.size_of_each.ensures, c.size_of_each-2.ensures)
