use Rattle.std.proofs.Common.{rules}
use Rattle.model.specs.Equality.{equal_rules}
use Rattle.model.specs.EqualityLaws.{rules_decided, told_by}
use Rattle.model.proofs.equality.RulePartialEq.eq.Goals as goal

pub returns-then-self-other-2-clause-equal : goal.returns-then-self-other-2-clause-equal
returns-then-self-other-2-clause-equal c = told_by equal_rules rules_decided c.args.self.now c.args.other.now c.eq.result (search rules)
