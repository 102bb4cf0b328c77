use Rattle.std.proofs.Common.{sym, ◌∙◌}
use Rattle.std.proofs.lemmas.Result.{err_from_is_err_and}
use Rattle.explain.specs.Conjunctions.{rows_in}
use Rattle.explain.specs.Lists.{as_lists}
use Rattle.explain.specs.Options.{options_of}
use Rattle.explain.specs.Tables.{lower_lists}
use Rattle.explain.proofs.Bodies.{body_all, body_more, body_stop}
use Rattle.explain.proofs.atoms.conjoin_body.Goals as goal

pub loop-literal-preserved : goal.loop-literal-preserved
loop-literal-preserved c =
    let k = c.args.known in
    body_more 64 (options_of k.board) (lower_lists k) c.args.body.now c.loop-literal.literal-index (rows_in c.loop-literal.rows) c.loop-literal-test.true
    (as_lists c.in_ok-own.own.now) c.in_ok-own.ensures (rows_in c.and.new.self) c.in_ok-and.ensures ∙ c.loop-literal.invariant

pub returns-in_err-and : goal.returns-in_err-and
returns-in_err-and c =
    let k = c.args.known in
    let p = err_from_is_err_and c.from_residual-in_err-and.result c.from_residual-in_err-and.ensures.1 in
    rw p.1 (body_stop 64 (options_of k.board) (lower_lists k) c.args.body.now c.loop-literal.literal-index (rows_in c.loop-literal.rows) c.loop-literal-test.true
    (as_lists c.in_ok-own.own.now) c.in_ok-own.ensures c.in_err-and.ensures ∙ c.loop-literal.invariant)

pub returns : goal.returns
returns c =
    let k = c.args.known in
    sym (body_all 64 (options_of k.board) (lower_lists k) c.args.body.now c.loop-literal.literal-index (rows_in c.loop-literal.rows) c.loop-literal-test.false) ∙ c.loop-literal.invariant
