use Rattle.card.proofs.Loads.{took_declares}
use Rattle.card.proofs.loading.take_alternative.Goals as goal

pub returns-clause-journal : goal.returns-clause-journal
returns-clause-journal c = λ j s g. took_declares c.declare.result c.args.model.now c.declare.new.self c.args.bytes.now j s c.read_each.result.now c.read_each.ensures (c.declare.ensures.journal j s g)
