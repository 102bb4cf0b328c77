use Rattle.model.specs.Equality.{equal_models}
use Rattle.model.specs.EqualityLaws.{models_decided, told_by}
use Rattle.model.proofs.tests.same_models.Goals as goal

pub returns : goal.returns
returns c = told_by equal_models models_decided c.args.x.now c.args.y.now c.eq.result c.eq.ensures
