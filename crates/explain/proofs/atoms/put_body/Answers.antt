use Rattle.std.proofs.Common.{[], ◌∷◌, map, Some, None, sym, refl, ap, ◌∙◌}
use Rattle.std.proofs.lemmas.List.{at_drop_all, get_or_default}
use Rattle.std.proofs.lemmas.Result.{err_from_is_err_and}
use Rattle.rows.specs.Holding.{listed, room}
use Rattle.rows.specs.Keeping.{and_then, kept_all}
use Rattle.rows.specs.Worlds.{inside, sooner}
use Rattle.rows.proofs.Puts.{run_more, run_stops}
use Rattle.logic.specs.Atoms.{body_from}
use Rattle.logic.specs.Duals.{put_rows}
use Rattle.logic.specs.Options.{Row}
use Rattle.model.specs.Meaning.{meaning}
use Rattle.explain.specs.Lists.{as_lists}
use Rattle.explain.specs.Options.{options_of}
use Rattle.explain.specs.Tables.{lower_lists}
use Rattle.explain.proofs.Bodies.{put_lists}
use Rattle.explain.proofs.Places.{empty_is}
use Rattle.explain.proofs.atoms.put_body.Goals as goal

pub loop-row-preserved : goal.loop-row-preserved
loop-row-preserved c =
    let inv = c.loop-row.invariant in
    let put = c.in_ok-put.ensures in
    let items = c.into_rows-row-items.result.now in
    let i = c.loop-row.row-index in
    let test = c.loop-row-test.true in (
      put.room ∙ inv.0,
      put.lent ∙ inv.1,
      run_more inside sooner (room c.args.bodies.now) (room c.loop-row.bodies) inv.0 (listed c.loop-row.bodies) items i _ test (get_or_default items i _ _ test) (listed c.put.new.self) put.defined ∙ inv.2,
    )

pub returns-in_err-conjoin_body : goal.returns-in_err-conjoin_body
returns-in_err-conjoin_body c =
    let b = c.args.known.board in
    let p = err_from_is_err_and c.from_residual.result c.from_residual.ensures.1 in
    let start = c.new-rows.ensures ∙ ap (λ (r : Row). r ∷ []) (sym (empty_is b.model.now b.suppositions.now)) in
    let body = c.in_err-conjoin_body.ensures ∙ ap (λ rows. body_from 64 (options_of b) (lower_lists c.args.known) rows (map meaning c.args.body.now)) start in
    rw p.1 (record { defined = ap (λ o. and_then o (put_rows (room c.args.bodies.now) (as_lists (listed c.args.bodies.now)))) body; room = refl; lent = refl })

pub returns-in_err-put : goal.returns-in_err-put
returns-in_err-put c =
    let b = c.args.known.board in
    let limit = room c.args.bodies.now in
    let before = listed c.args.bodies.now in
    let items = c.into_rows-row-items.result.now in
    let i = c.loop-row.row-index in
    let test = c.loop-row-test.true in
    let inv = c.loop-row.invariant in
    let put = c.in_err-put.ensures in
    let p = err_from_is_err_and c.from_residual-in_err-put.result c.from_residual-in_err-put.ensures.1 in
    let start = c.new-rows.ensures ∙ ap (λ (r : Row). r ∷ []) (sym (empty_is b.model.now b.suppositions.now)) in
    let body = c.in_ok-conjoin_body.ensures ∙ ap (λ rows. body_from 64 (options_of b) (lower_lists c.args.known) rows (map meaning c.args.body.now)) start in
    let stop = run_stops inside sooner limit (room c.loop-row.bodies) inv.0 (listed c.loop-row.bodies) items i _ test (get_or_default items i _ _ test) put.defined ∙ inv.2 in
    rw p.1 (record {
      defined = put_lists limit limit before items None refl stop
          ∙ ap (put_rows limit (as_lists before)) c.into_rows-row-items.ensures.rows
          ∙ ap (λ o. and_then o (put_rows limit (as_lists before))) body;
      room = put.room ∙ inv.0;
      lent = put.lent ∙ inv.1;
    })

pub returns : goal.returns
returns c =
    let b = c.args.known.board in
    let limit = room c.args.bodies.now in
    let before = listed c.args.bodies.now in
    let after = listed c.loop-row.bodies in
    let items = c.into_rows-row-items.result.now in
    let inv = c.loop-row.invariant in
    let start = c.new-rows.ensures ∙ ap (λ (r : Row). r ∷ []) (sym (empty_is b.model.now b.suppositions.now)) in
    let body = c.in_ok-conjoin_body.ensures ∙ ap (λ rows. body_from 64 (options_of b) (lower_lists c.args.known) rows (map meaning c.args.body.now)) start in
    let kept = sym (at_drop_all (kept_all inside sooner limit after) items c.loop-row.row-index c.loop-row-test.false) ∙ inv.2 in
    record {
      defined = put_lists limit limit before items (Some after) refl kept
          ∙ ap (put_rows limit (as_lists before)) c.into_rows-row-items.ensures.rows
          ∙ ap (λ o. and_then o (put_rows limit (as_lists before))) body;
      room = inv.0;
      lent = inv.1;
    }
