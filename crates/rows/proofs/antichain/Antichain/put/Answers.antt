use Rattle.std.proofs.Common.{rules}
use Rattle.rows.proofs.Puts.{past_both}
use Rattle.rows.proofs.antichain.Antichain.put.Goals as goal

pub returns : goal.returns
returns g c =
    let put = c.in_ok-self.ensures in
    record { defined = put.defined; room = search rules; refused = tt; same = put.same; past = past_both c.args.self.now.held c.in_ok-self.field-0 c.args.self.now.items.now c.put.new.items (search rules) put.past; lent = search rules }
