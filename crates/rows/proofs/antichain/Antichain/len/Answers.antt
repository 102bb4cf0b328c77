use Rattle.std.proofs.Common.{sym, ◌∙◌, arith}
use Rattle.std.proofs.lemmas.List.{length-take}
use Rattle.rows.proofs.antichain.Antichain.len.Goals as goal

pub returns : goal.returns
returns g c = record { count = c.min.ensures ∙ sym (length-take c.args.self.now.held c.args.self.now.items.now); fits = omega arith }
