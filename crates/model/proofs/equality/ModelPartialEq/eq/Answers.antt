use Rattle.std.proofs.Common.{rules}
use Rattle.model.specs.Equality.{equal_models}
use Rattle.model.specs.EqualityLaws.{models_decided, told_by}
use Rattle.model.proofs.equality.ModelPartialEq.eq.Goals as goal

pub returns-then-eq-clause-equal : goal.returns-then-eq-clause-equal
returns-then-eq-clause-equal c = told_by equal_models models_decided c.args.self.now c.args.other.now c.eq-then-eq.result (search rules)

pub returns-else-eq-clause-equal : goal.returns-else-eq-clause-equal
returns-else-eq-clause-equal c = told_by equal_models models_decided c.args.self.now c.args.other.now c.if-self-other-2.value (search rules)
