use Rattle.std.proofs.Common.{sym, ◌∙◌}
use Rattle.std.proofs.lemmas.List.{at_drop_all}
use Rattle.std.proofs.lemmas.Result.{err_from_is_err_and}
use Rattle.rows.specs.Holding.{listed, room}
use Rattle.logic.specs.Duals.{put_rows, unions}
use Rattle.explain.specs.Lists.{as_lists}
use Rattle.explain.proofs.Conjoins.{unions_skip, unions_put, unions_stop}
use Rattle.explain.proofs.duals.put_unions.Goals as goal
use Rattle.explain.proofs.duals.put_unions.Goals.{then-compatible+in_ok-put, else-compatible}

pub loop-other-preserved : goal.loop-other-preserved
loop-other-preserved c =
    let limit = room c.args.list.now in
    let a = c.args.row.now.choices in
    let others = c.args.others.now in
    let i = c.loop-other.other-index in
    let l = c.loop-other.list in
    let inv = c.loop-other.invariant in
    elim c.if-compatible.branch [
      | then-compatible+in_ok-put w ↦
          let put = w.in_ok-put.ensures in
          let turn = unions_put limit a others i c.loop-other-test.true (listed l) (room l) w.union.result inv.0 w.union.ensures.merged (sym w.if-compatible.ensures) (listed w.put.new.self) put.defined in
          rw w.list-is (put.room ∙ inv.0, put.lent ∙ inv.1, turn ∙ inv.2)
      | else-compatible w ↦
          let turn = unions_skip limit a others i c.loop-other-test.true (listed l) (sym w.if-compatible.ensures) in
          rw w.list-is (inv.0, inv.1, turn ∙ inv.2)
    ]

pub returns-in_err-put : goal.returns-in_err-put
returns-in_err-put c =
    let limit = room c.args.list.now in
    let l = c.loop-other.list in
    let inv = c.loop-other.invariant in
    let put = c.in_err-put.ensures in
    let p = err_from_is_err_and c.from_residual.result c.from_residual.ensures.1 in
    let stop = unions_stop limit c.args.row.now.choices c.args.others.now c.loop-other.other-index c.loop-other-test.true (listed l) (room l) c.union.result inv.0 c.union.ensures.merged (sym c.if-compatible.ensures) put.defined in
    rw p.1 (record { defined = stop ∙ inv.2; room = put.room ∙ inv.0; lent = put.lent ∙ inv.1 })

pub returns : goal.returns
returns c =
    let inv = c.loop-other.invariant in
    let all = at_drop_all (λ rows. put_rows (room c.args.list.now) (as_lists (listed c.loop-other.list)) (unions c.args.row.now.choices (as_lists rows))) c.args.others.now c.loop-other.other-index c.loop-other-test.false in
    record { defined = sym all ∙ inv.2; room = inv.0; lent = inv.1 }
