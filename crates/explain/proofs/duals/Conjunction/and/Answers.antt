use Rattle.std.proofs.Common.{◌≤◌, length, Some, sym, ap, ◌∙◌, arith}
use Rattle.std.proofs.lemmas.List.{length-take}
use Rattle.std.proofs.lemmas.Result.{err_from_is_err_and}
use Rattle.rows.specs.Holding.{listed, room}
use Rattle.rows.specs.Lending as lending
use Rattle.logic.specs.Duals.{conjoined}
use Rattle.explain.specs.Lists.{as_lists}
use Rattle.explain.proofs.Conjoins.{rows_put, rows_stop, rows_all, refilled}
use Rattle.explain.proofs.duals.Conjunction.and.Goals as goal

pub loop-row-preserved : goal.loop-row-preserved
loop-row-preserved c =
    let l = c.loop-row.next in
    let inv = c.loop-row.invariant in
    let put = c.in_ok-put_unions.ensures in
    let turn = rows_put 64 _ (as_lists c.args.others.now) (as_lists (listed l)) c.loop-row.row-index c.loop-row-test.true (room l) inv.0 (as_lists (listed c.put_unions.new.list)) put.defined in
    (put.room ∙ inv.0, put.lent ∙ inv.1, turn ∙ inv.2)

pub returns-in_err-put_unions : goal.returns-in_err-put_unions
returns-in_err-put_unions c =
    let l = c.loop-row.next in
    let inv = c.loop-row.invariant in
    let p = err_from_is_err_and c.from_residual.result c.from_residual.ensures.1 in
    let stop = rows_stop 64 _ (as_lists c.args.others.now) (as_lists (listed l)) c.loop-row.row-index c.loop-row-test.true (room l) inv.0 c.in_err-put_unions.ensures.defined in
    rw p.1 (stop ∙ inv.2 ∙ ap (λ rows. conjoined 64 (as_lists rows) (as_lists c.args.others.now)) c.as_slice-row-items.ensures)

pub returns : goal.returns
returns c =
    let l = c.loop-row.next in
    let others = as_lists c.args.others.now in
    let rows = c.held.result.now in
    let fits : length rows ≤ lending.room c.args.self.now.rows = omega (arith, ap length c.held.ensures, length-take l.held l.items.now, c.loop-row.invariant.0, c.args.self.now.room) in
    let filled = refilled c.args.self.now.rows c.clear.new.self c.extend_from_slice.new.self rows c.extend_from_slice.result c.clear.ensures.loan c.clear.ensures.empty fits c.extend_from_slice.ensures.grown in
    filled.0
    ∙ ap (λ rows. Some (as_lists rows)) c.held.ensures
    ∙ sym (rows_all 64 _ others (as_lists (listed l)) c.loop-row.row-index c.loop-row-test.false) ∙ c.loop-row.invariant.2
    ∙ ap (λ rows. conjoined 64 (as_lists rows) others) c.as_slice-row-items.ensures
