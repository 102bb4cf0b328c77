use Rattle.std.proofs.Common.{ap, ◌∙◌}
use Rattle.std.proofs.lemmas.Result.{err_from_is_err_and}
use Rattle.rows.specs.Keeping.{and_then}
use Rattle.logic.specs.Duals.{duals}
use Rattle.model.specs.Meaning.{held_rules}
use Rattle.explain.specs.Lists.{as_lists}
use Rattle.explain.specs.Options.{options_of}
use Rattle.explain.specs.Tables.{lower_lists}
use Rattle.explain.proofs.Works.{worked_some, negated_wide, own_wide}
use Rattle.explain.proofs.work.work.Goals as goal

pub returns-in_err-bodies : goal.returns-in_err-bodies
returns-in_err-bodies c =
    let k = c.args.known in
    let os = options_of k.board in
    let p = err_from_is_err_and c.from_residual.result c.from_residual.ensures.1 in
    rw p.1 (negated_wide 64 os (held_rules k.board.model.now) (lower_lists k) c.args.atom (ap (λ o. and_then o (duals 64 os)) c.in_err-bodies.ensures))

pub returns-in_err-negated : goal.returns-in_err-negated
returns-in_err-negated c =
    let k = c.args.known in
    let os = options_of k.board in
    let p = err_from_is_err_and c.from_residual-in_err-negated.result c.from_residual-in_err-negated.ensures.1 in
    rw p.1 (negated_wide 64 os (held_rules k.board.model.now) (lower_lists k) c.args.atom (c.in_err-negated.ensures.defined ∙ ap (λ o. and_then o (duals 64 os)) c.in_ok-bodies.ensures))

pub returns-in_err-own : goal.returns-in_err-own
returns-in_err-own c =
    let k = c.args.known in
    let os = options_of k.board in
    let p = err_from_is_err_and c.from_residual-in_err-own.result c.from_residual-in_err-own.ensures.1 in
    let negated = c.in_ok-negated.ensures.defined ∙ ap (λ o. and_then o (duals 64 os)) c.in_ok-bodies.ensures in
    rw p.1 (own_wide 64 os (held_rules k.board.model.now) (lower_lists k) c.args.atom (as_lists c.in_ok-negated.negated.now) negated c.in_err-own.ensures.defined)

pub returns : goal.returns
returns c =
    let k = c.args.known in
    let os = options_of k.board in
    let negated = c.in_ok-negated.ensures.defined ∙ ap (λ o. and_then o (duals 64 os)) c.in_ok-bodies.ensures in
    worked_some 64 os (held_rules k.board.model.now) (lower_lists k) c.args.atom (as_lists c.in_ok-own.own.now) (as_lists c.in_ok-negated.negated.now) negated c.in_ok-own.ensures.defined
