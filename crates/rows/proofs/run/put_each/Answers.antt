use Rattle.std.proofs.Common.{◌≡◌, ◌+◌, length, take, drop, Some, sym, refl, ap, ◌∙◌, subst, add_assoc, arith, rules}
use Rattle.std.proofs.lemmas.List.{at_drop_all, length-take}
use Rattle.std.proofs.lemmas.Result.{err_from_is_err_and}
use Rattle.rows.specs.Holding.{listed, room}
use Rattle.rows.specs.Keeping.{kept_all}
use Rattle.rows.proofs.Kept.{kept_grows}
use Rattle.rows.proofs.Puts.{drop_later, past_more, run_more, run_stops, take_counted}
use Rattle.rows.proofs.run.put_each.Goals as goal

pub loop-x-init : goal.loop-x-init
loop-x-init g c =
    let l = c.holding-list.result in
    (refl, refl, refl, omega (arith, length-take l.held l.items.now, ap length c.holding-list.ensures.listed, length-take c.args.held c.args.into.now), refl)

pub loop-x-preserved : goal.loop-x-preserved
loop-x-preserved g c =
    let m = g.T.Ordered in
    let put = c.in_ok-put.ensures in
    let first = c.holding-list.result in
    let grows = kept_grows m.below m.before (room c.loop-x.list) (listed c.loop-x.list) c.x-item.result (listed c.put.new.self) put.defined in
    let past = past_more (length (listed c.loop-x.list)) (length (listed c.put.new.self)) (c.args.held + c.loop-x.x-index) first.items.now c.loop-x.list.items.now c.put.new.self.items.now c.loop-x.invariant.3 grows put.past c.loop-x.invariant.4 in (
      search rules,
      search rules,
      run_more m.below m.before (room first) (room c.loop-x.list) c.loop-x.invariant.0 (listed c.loop-x.list) c.args.from.now c.loop-x.x-index c.x-item.result c.loop-x-test.true c.x-item.is
          (listed c.put.new.self) put.defined ∙ c.loop-x.invariant.2,
      omega arith,
      subst (λ n. drop n c.put.new.self.items.now ≡ drop n first.items.now) (add_assoc c.args.held c.loop-x.x-index 1) past,
    )

pub returns-in_err-put : goal.returns-in_err-put
returns-in_err-put g c =
    let m = g.T.Ordered in
    let put = c.in_err-put.ensures in
    let p = err_from_is_err_and c.from_residual.result c.from_residual.ensures.1 in
    let last = c.args.held + length c.args.from.now in
    let past : drop last c.put.new.self.items.now ≡ drop last c.holding-list.result.items.now =
    ap (λ items. drop last items) (ap (λ l. l.items.now) put.refused)
    ∙ drop_later (c.args.held + c.loop-x.x-index) last c.loop-x.list.items.now c.holding-list.result.items.now (omega arith) c.loop-x.invariant.4 in
    rw p.1 (record {
      defined = run_stops m.below m.before (room c.holding-list.result) (room c.loop-x.list) c.loop-x.invariant.0 (listed c.loop-x.list) c.args.from.now c.loop-x.x-index c.x-item.result c.loop-x-test.true c.x-item.is put.defined ∙ c.loop-x.invariant.2
          ∙ ap (λ ys. kept_all m.below m.before (room c.holding-list.result) ys c.args.from.now) c.holding-list.ensures.listed
          ∙ ap (λ n. kept_all m.below m.before n (take c.args.held c.args.into.now) c.args.from.now) (search rules);
      fits = tt;
      past = search rules;
    })

pub returns : goal.returns
returns g c =
    let m = g.T.Ordered in
    let first = c.holding-list.result in
    let full : Some (listed c.loop-x.list) ≡ kept_all m.below m.before (room first) (listed first) c.args.from.now =
    sym (at_drop_all (kept_all m.below m.before (room first) (listed c.loop-x.list)) c.args.from.now c.loop-x.x-index c.loop-x-test.false) ∙ c.loop-x.invariant.2 in
    let done : Some (take c.len.result c.loop-x.list.items.now) ≡ kept_all m.below m.before (length c.args.into.now) (take c.args.held c.args.into.now) c.args.from.now =
    ap (λ n. Some (take n c.loop-x.list.items.now)) c.len.ensures.count ∙ ap Some (take_counted c.loop-x.list.held c.loop-x.list.items.now)
    ∙ full ∙ ap (λ ys. kept_all m.below m.before (room first) ys c.args.from.now) c.holding-list.ensures.listed
    ∙ ap (λ n. kept_all m.below m.before n (take c.args.held c.args.into.now) c.args.from.now) (search rules) in
    let past = drop_later (c.args.held + c.loop-x.x-index) (c.args.held + length c.args.from.now) c.loop-x.list.items.now first.items.now (omega arith) c.loop-x.invariant.4 in
    let fits = c.len.ensures.fits in
    record { defined = search rules; fits = search rules; past = search rules }
