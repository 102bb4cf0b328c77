use Rattle.std.proofs.Common.{◌&&◌, ◌||◌, ltb, eqb, ap, ◌∙◌}
use Rattle.std.specs.List.{flat_map}
use Rattle.rows.specs.Rows.{earlier}
use Rattle.model.specs.Literals.{numbers}
use Rattle.model.proofs.Bodies.{decides_first, body_before}
use Rattle.model.proofs.rule.RuleOrdered.precedes.Goals as goal

pub returns : goal.returns
returns c =
    let r = c.args.self.now in
    let s = c.args.other.now in
    c.lt.ensures ∙ decides_first r.head s.head _ ∙ ap (λ b. ltb r.head s.head || (eqb r.head s.head && b)) (body_before c.body.result.now c.body-2.result.now ∙ (λ i. earlier (flat_map numbers (c.body.ensures i)) (flat_map numbers (c.body-2.ensures i))))
