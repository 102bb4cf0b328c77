use Rattle.model.specs.Equality.{equal_rules}
use Rattle.model.specs.EqualityLaws.{rules_decided, told_by}
use Rattle.model.proofs.tests.same_rules.Goals as goal

pub returns : goal.returns
returns c = told_by equal_rules rules_decided c.args.x.now c.args.y.now c.eq.result c.eq.ensures
