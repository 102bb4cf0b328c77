use Rattle.std.proofs.Common.{take, ap, ◌∙◌}
use native.Mathlib.Nat.{sub-zero}
use Rattle.rows.proofs.Puts.{take_counted}
use Rattle.rows.proofs.antichain.Antichain.held.Goals as goal

pub returns : goal.returns
returns g c = simp sub-zero (ap (λ n. take n c.args.self.now.items.now) c.len.ensures.count ∙ take_counted c.args.self.now.held c.args.self.now.items.now)
