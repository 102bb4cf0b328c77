use Rattle.std.proofs.Common.{set, ap, ◌∙◌}
use Rattle.rows.proofs.Fills.{opened}
use Rattle.rows.proofs.list.insert.Goals as goal

pub returns-clause-done : goal.returns-clause-done
returns-clause-done g c = ap (λ l. set l c.args.at c.args.x) c.copy_within.ensures.after ∙ opened c.args.x c.args.items.now c.args.held c.args.at c.requires.0 c.requires.1
