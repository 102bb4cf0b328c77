use Rattle.std.proofs.Common.{rules, ◌+◌, ◌-◌, ◌++◌, length, take, ap, ◌∙◌, arith}
use Rattle.std.proofs.lemmas.Slice.{take-put_mid, drop-put_mid}
use Rattle.rows.proofs.Lends.{grown_past}
use Rattle.rows.proofs.lent.Lent.extend_from_slice.Goals as goal

pub returns-clause-grown : goal.returns-clause-grown
returns-clause-grown g c =
    let at = c.args.self.now.len in
    let places = c.args.self.now.places.now in
    let xs = c.args.xs.now in
    let within = c.args.self.now.within in
    let copied = c.copy_from_slice.ensures.after in
    let room = c.if-self-xs.false in
    let long = ap length copied in
    let front = take-put_mid at (at + length xs - at) places c.copy_from_slice.new.self (at + length xs) (omega (arith, long)) within ∙ ap (λ ys. take at places ++ ys) copied in
    let past = drop-put_mid at (at + length xs - at) places c.copy_from_slice.new.self (at + length xs) (omega arith) within (omega (arith, long)) in
    record { loan = record { lender = search rules; size = search rules }; listed = front; past = grown_past at xs places _ within front past }
