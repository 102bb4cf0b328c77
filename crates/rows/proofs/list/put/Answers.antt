use Rattle.std.proofs.Common.{◌≡◌, ◌≤◌, false, length, take, sym, refl, arith}
use native.Mathlib.Nat.{sub-zero}
use Rattle.std.proofs.lemmas.List.{length-take, take-take}
use Rattle.std.proofs.lemmas.Bool.{both_ways}
use Rattle.rows.specs.Keeping.{covered}
use Rattle.rows.proofs.Puts.{held_clamped, put_same, put_full, put_fits, put_one, put_past}
use Rattle.rows.proofs.list.put.Goals as goal

pub returns-then-covers : goal.returns-then-covers
returns-then-covers g c = record { defined = put_same c.args.items.now c.args.held c.min-held.result c.min-held.ensures g.T.Ordered.below g.T.Ordered.before c.args.x (sym (simp sub-zero at c.if-covers.ensures)); refused = tt; same = λ _. refl; fits = omega arith; past = refl }

pub returns-then-first-items : goal.returns-then-first-items
returns-then-first-items g c = record {
  defined = put_full c.args.items.now c.args.held c.min-held.result c.min-held.ensures g.T.Ordered.below g.T.Ordered.before c.args.x (sym (simp sub-zero at c.if-covers.ensures)) c.first_above-first.result (simp sub-zero at c.first_above-first.ensures.within) c.if-first-items.true (simp sub-zero at c.first_above-first.ensures.stay);
  refused = refl;
  same = λ _. refl;
  fits = tt;
  past = tt;
}

pub remove_above-left-requires : goal.remove_above-left-requires
remove_above-left-requires g c =
    let inside : c.first_above-first.result ≤ length (take c.min-held.result c.args.items.now) = simp sub-zero at c.first_above-first.ensures.within in
    let count = length-take c.min-held.result c.args.items.now in
    let short : c.first_above-first.result ≤ c.min-held.result = omega arith in
    record { within = (short, omega arith); stay = rw (take-take c.first_above-first.result c.min-held.result c.args.items.now short) at (simp sub-zero at c.first_above-first.ensures.stay) }

pub insert-requires : goal.insert-requires
insert-requires g c =
    let fits = put_fits g.T.Ordered.below c.args.x c.args.items.now c.min-held.result c.first_above-first.result
    (simp sub-zero at c.first_above-first.ensures.within) c.if-first-items.false (simp sub-zero at c.first_above-first.ensures.above) in
    let at = simp sub-zero at c.place-at.ensures.within in
    let n = length-take c.remove_above-left.result c.remove_above-left.new.items in
    (omega arith, omega arith)

pub returns : goal.returns
returns g c =
    let new : covered g.T.Ordered.below (take c.min-held.result c.args.items.now) c.args.x ≡ false = sym (simp sub-zero at c.if-covers.ensures) in
    let at = simp sub-zero at c.place-at.ensures.within in
    let n = length-take c.remove_above-left.result c.remove_above-left.new.items in
    rw c.insert.ensures.count (record {
      defined = put_one c.args.items.now c.args.held c.min-held.result c.min-held.ensures g.T.Ordered.below g.T.Ordered.before c.args.x
          c.remove_above-left.new.items c.insert.new.items c.remove_above-left.result c.place-at.result (omega arith) (omega arith) c.insert.ensures.done new (omega arith) c.remove_above-left.ensures.front (simp sub-zero at c.place-at.ensures.there);
      refused = tt;
      same = λ h. absurd (both_ways _ new (rw (held_clamped c.args.items.now c.args.held c.min-held.result c.min-held.ensures) h));
      fits = omega arith;
      past = put_past c.args.items.now c.args.held c.min-held.result c.min-held.ensures c.args.x
          c.remove_above-left.new.items c.insert.new.items c.remove_above-left.result c.place-at.result (omega arith) (omega arith) c.insert.ensures.done c.remove_above-left.ensures.past;
    })
