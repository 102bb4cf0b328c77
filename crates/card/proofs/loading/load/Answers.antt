use Rattle.card.specs.Loading.{holding}
use Rattle.card.proofs.Loads.{loaded_law}
use Rattle.card.proofs.loading.load.Goals as goal

pub returns-else-is_err-clause-law : goal.returns-else-is_err-clause-law
returns-else-is_err-clause-law c = loaded_law c.args.card.now (holding c.new.result) c.take_records-answer.result c.take_records-answer.new.model c.take_records-answer.ensures.defined
