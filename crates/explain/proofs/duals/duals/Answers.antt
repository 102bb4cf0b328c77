use Rattle.std.proofs.Common.{[], ◌∷◌, Some, sym, ap, ◌∙◌}
use Rattle.std.proofs.lemmas.Result.{err_from_is_err_and}
use Rattle.logic.specs.Duals.{duals, duals_from}
use Rattle.logic.specs.Options.{Row}
use Rattle.explain.specs.Conjunctions.{rows_in}
use Rattle.explain.specs.Lists.{as_lists}
use Rattle.explain.specs.Options.{options_of}
use Rattle.explain.proofs.Conjoins.{duals_all, duals_more, duals_stop}
use Rattle.explain.proofs.Places.{empty_is}
use Rattle.explain.proofs.duals.duals.Goals as goal

pub loop-member-init : goal.loop-member-init
unfolding duals
loop-member-init c =
    let b = c.args.board in
    ap (λ ds. duals_from 64 (options_of b) ds (as_lists c.args.members.now)) (c.new-duals.ensures ∙ ap (λ (r : Row). r ∷ []) (sym (empty_is b.model.now b.suppositions.now)))

pub loop-member-preserved : goal.loop-member-preserved
loop-member-preserved c =
    duals_more 64 (options_of c.args.board) c.args.members.now c.loop-member.member-index (rows_in c.loop-member.duals) c.loop-member-test.true
    (as_lists c.in_ok-others.others.now) c.in_ok-others.ensures (rows_in c.and.new.self) c.in_ok-and.ensures ∙ c.loop-member.invariant

pub returns-in_err-and : goal.returns-in_err-and
returns-in_err-and c =
    let p = err_from_is_err_and c.from_residual-in_err-and.result c.from_residual-in_err-and.ensures.1 in
    let stop = duals_stop 64 (options_of c.args.board) c.args.members.now c.loop-member.member-index (rows_in c.loop-member.duals) c.loop-member-test.true (as_lists c.in_ok-others.others.now) c.in_ok-others.ensures c.in_err-and.ensures in
    rw p.1 (record { defined = stop ∙ c.loop-member.invariant; few = tt })

pub returns : goal.returns
returns c = record {
  defined = ap Some c.into_rows.ensures.rows
      ∙ sym (duals_all 64 (options_of c.args.board) c.args.members.now c.loop-member.member-index (rows_in c.loop-member.duals) c.loop-member-test.false) ∙ c.loop-member.invariant;
  few = c.into_rows.ensures.few;
}
