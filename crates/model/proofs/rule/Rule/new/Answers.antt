use Rattle.std.proofs.Common.{◌≡◌, [], Some, length, take, ◌∙◌, arith, rules}
use Rattle.rows.specs.Keeping.{kept_all}
use Rattle.rows.proofs.Pushes.{kept_all_some}
use Rattle.model.specs.Literals.{alike, sooner, blank_literal}
use Rattle.model.proofs.Bodies.{shown_ok, filled, rule_built}
use Rattle.model.proofs.rule.Rule.new.Goals as goal

pub unwrap-len-requires : goal.unwrap-len-requires
unwrap-len-requires c =
    let some = kept_all_some alike sooner 8 c.args.body.now [] (omega arith) in
    shown_ok c.put_all.result c.put_all.new.into some.0 (c.put_all.ensures.defined ∙ some.1)

pub returns : goal.returns
returns c =
    let n = c.unwrap-len.result in
    let table = c.put_all.new.into in
    let put : Some (take n table) ≡ kept_all alike sooner 8 [] c.args.body.now = rw c.unwrap-len.ensures at c.put_all.ensures.defined in
    let few = rw c.unwrap-len.ensures at c.put_all.ensures.fits in
    let long : length table ≡ 8 = search rules in
    rule_built c.args.head n c.args.body.now table _ put few long (filled 8 n blank_literal table c.fill.new.self long (c.fill.ensures.after (λ y is. is)))
