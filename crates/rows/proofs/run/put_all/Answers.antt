use Rattle.std.proofs.Common.{◌≡◌, length, drop, subst, zero-add}
use Rattle.rows.specs.Minimal.{Minimals, CoversAlike, InAnyOrder}
use Rattle.rows.proofs.Kept.{run_minimal, run_covers, run_any_order}
use Rattle.rows.proofs.Puts.{shown_cases}
use Rattle.rows.proofs.run.put_all.Goals as goal

pub returns : goal.returns
returns g c =
    let m = g.T.Ordered in
    let laws = g.met.T.Ordered.orders in
    let from = c.args.from.now in
    let limit = length c.args.into.now in
    let run = c.put_each.ensures in
    let r = c.put_each.result in
    let after = c.put_each.new.into in
    record {
      defined = run.defined;
      fits = run.fits;
      past = subst (λ n. drop n after ≡ drop n c.args.into.now) (zero-add (length from)) run.past;
      minimal = λ vs. shown_cases (Minimals m.below m.before from) r after _ run.defined (λ ys h. run_minimal laws limit from ys vs h);
      covering = λ vs. shown_cases (CoversAlike m.valid m.below from) r after _ run.defined (λ ys h. run_covers laws limit from ys vs h);
      unordered = λ vs. shown_cases (InAnyOrder m.below m.before from) r after _ run.defined (λ ys h. run_any_order laws limit from ys vs h);
    }
