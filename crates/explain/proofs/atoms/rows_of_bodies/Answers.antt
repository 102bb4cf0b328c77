use Rattle.std.proofs.Common.{List, [], ◌∷◌, map, Some, sym, ap, ap₂, ◌∙◌}
use Rattle.std.proofs.lemmas.Result.{err_from_is_err_and}
use Rattle.std.proofs.lemmas.Bool.{eq-eqb, ne_eqb}
use Rattle.rows.specs.Holding.{listed}
use Rattle.rows.specs.Keeping.{and_then}
use Rattle.logic.specs.Atoms.{body_from, bodies_from}
use Rattle.logic.specs.Duals.{empty, put_rows}
use Rattle.logic.specs.Rules.{rules_for}
use Rattle.model.specs.declared.literal.Literal.{Literal}
use Rattle.model.specs.Meaning.{meaning, held_rule}
use Rattle.model.specs.declared.rule.Rule.{Rule}
use Rattle.explain.specs.Lists.{as_lists}
use Rattle.explain.specs.Options.{options_of}
use Rattle.explain.specs.Tables.{lower_lists}
use Rattle.explain.proofs.Bodies.{bodies_all, bodies_skip, bodies_more, bodies_stop}
use Rattle.explain.proofs.atoms.rows_of_bodies.Goals as goal
use Rattle.explain.proofs.atoms.rows_of_bodies.Goals.{then-head-atom+in_ok-put_body, else-head-atom}

pub loop-rule-preserved : goal.loop-rule-preserved
loop-rule-preserved c =
    let k = c.args.known in
    let os = options_of k.board in
    let t = lower_lists k in
    let rs = c.rules-rule-items.result.now in
    let i = c.loop-rule.rule-index in
    let inv = c.loop-rule.invariant in
    let held = as_lists (listed c.loop-rule.bodies) in
    elim c.if-head-atom.branch [
      | then-head-atom+in_ok-put_body w ↦
          let put = w.in_ok-put_body.ensures in
          let next = put.defined ∙ ap₂ (λ (ls : List Literal) n. and_then (body_from 64 os t (empty os ∷ []) (map meaning ls)) (put_rows n held)) w.body.ensures inv.0 in
          rw w.bodies-is (put.room ∙ inv.0, bodies_more 64 os t c.args.atom rs i held c.loop-rule-test.true (eq-eqb _ _ (sym c.head.ensures ∙ w.if-head-atom.true)) (as_lists (listed w.put_body.new.bodies)) next ∙ inv.1)
      | else-head-atom w ↦ rw w.bodies-is (inv.0, bodies_skip 64 os t c.args.atom rs i held c.loop-rule-test.true (ne_eqb _ _ (λ is. w.if-head-atom.false (c.head.ensures ∙ is))) ∙ inv.1)
    ]

pub returns-in_err-put_body : goal.returns-in_err-put_body
returns-in_err-put_body c =
    let k = c.args.known in
    let os = options_of k.board in
    let t = lower_lists k in
    let inv = c.loop-rule.invariant in
    let held = as_lists (listed c.loop-rule.bodies) in
    let p = err_from_is_err_and c.from_residual.result c.from_residual.ensures.1 in
    let stop = c.in_err-put_body.ensures.defined ∙ ap₂ (λ (ls : List Literal) n. and_then (body_from 64 os t (empty os ∷ []) (map meaning ls)) (put_rows n held)) c.body.ensures inv.0 in
    rw p.1 (
    bodies_stop 64 os t c.args.atom c.rules-rule-items.result.now c.loop-rule.rule-index held c.loop-rule-test.true (eq-eqb _ _ (sym c.head.ensures ∙ c.if-head-atom.true)) stop ∙ inv.1
    ∙ ap (λ (rs : List Rule). bodies_from 64 os t [] (rules_for (map held_rule rs) c.args.atom)) c.rules-rule-items.ensures)

pub returns : goal.returns
returns c =
    let k = c.args.known in
    let os = options_of k.board in
    let t = lower_lists k in
    ap (λ rows. Some (as_lists rows)) c.into_held.ensures
    ∙ sym (bodies_all 64 os t c.args.atom c.rules-rule-items.result.now c.loop-rule.rule-index (as_lists (listed c.loop-rule.bodies)) c.loop-rule-test.false) ∙ c.loop-rule.invariant.1
    ∙ ap (λ (rs : List Rule). bodies_from 64 os t [] (rules_for (map held_rule rs) c.args.atom)) c.rules-rule-items.ensures
