use Rattle.std.proofs.Common.{sym, rules}
use Rattle.std.proofs.lemmas.List.{set_past}
use Rattle.rows.proofs.row.Row.with.Goals as goal

pub returns-else-place-lt-PLACES : goal.returns-else-place-lt-PLACES
returns-else-place-lt-PLACES c = sym (set_past c.args.self.choices c.args.place c.args.choice (search rules))
