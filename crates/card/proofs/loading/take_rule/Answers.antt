use Rattle.card.proofs.Loads.{took_states}
use Rattle.card.proofs.loading.take_rule.Goals as goal

pub returns-clause-journal : goal.returns-clause-journal
returns-clause-journal c = λ j s g. took_states c.state.result c.args.model.now c.state.new.self c.args.bytes.now j s c.args.head c.read_each.result.now c.read_each.ensures (c.state.ensures.journal j s g)
