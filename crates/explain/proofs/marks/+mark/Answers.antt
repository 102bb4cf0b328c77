use Rattle.std.proofs.Common.{◌≡◌, ◌≤◌, true, false, map, length, get_or, drop, set, sym, ap, ◌∙◌, subst, ⊎_elim, length-drop, arith, rules}
use Rattle.std.specs.Iterator.Adapters.{zip_first, zip_second}
use Rattle.std.specs.Slice.Iter.{iter_rest}
use Rattle.model.specs.Meaning.{held_rule}
use Rattle.explain.specs.Marks.{Marked}
use Rattle.explain.proofs.Marking.{Underway, underway_none, underway_pass, underway_mark, underway_all, drop_front}
use Rattle.explain.proofs.marks.+mark.Goals as goal

pub loop-lower-init : goal.loop-lower-init
loop-lower-init t c =
    let rs = map held_rule c.args.rules.now in
    let before = set c.args.marks.now c.args.atom true in
    let it = c.into_iter-lower-iterator.result in
    let first = ap zip_first c.into_iter-lower-iterator.ensures.into_iter_gives ∙ c.zip-lower-items.ensures.first in
    let start : (zip_first it).start ≡ 0 = ap (λ r. r.start) first in
    let end : (zip_first it).end ≡ c.args.atom = ap (λ r. r.end) first in
    (search rules, search rules, end, omega (arith, start), sym (ap (λ n. drop n (iter_rest (zip_second it))) start), subst (Underway rs c.args.atom before before) (sym start) (underway_none rs c.args.atom before))

pub loop-lower-preserved-then-is_used : goal.loop-lower-preserved-then-is_used
loop-lower-preserved-then-is_used t c =
    let rs = map held_rule c.args.rules.now in
    let before = set c.args.marks.now c.args.atom true in
    let inv = c.loop-lower.invariant in
    let (end, (some, is, next)) = c.in-Some.ensures.steps.0 in
    let n = (zip_first c.loop-lower.lower-iterator).start in
    let first = zip_second c.into_iter-lower-iterator.result in
    let (here, left) = drop_front n (iter_rest first) c.in-Some.is_used.now false _ (sym inv.4 ∙ c.in-Some.ensures.steps.1) in
    let all : iter_rest first ≡ c.atoms_used-used.result = search rules in
    let test = sym (c.atoms_used-used.ensures n (omega (arith, some, inv.2, c.requires))) ∙ ap (λ us. get_or us n false) (sym all) ∙ here in (
      search rules,
      search rules,
      end ∙ inv.2,
      omega (arith, next, some, inv.2),
      left ∙ ap (λ k. drop k (iter_rest first)) (sym next),
      subst (Underway rs c.args.atom before c.mark.new.marks) (sym next)
          (underway_mark rs c.args.atom before c.loop-lower.marks n inv.5 c.mark.new.marks (test ∙ c.if-is_used.true) (subst (λ k. Marked rs k c.loop-lower.marks c.mark.new.marks) is c.mark.ensures)),
    )

pub loop-lower-preserved : goal.loop-lower-preserved
loop-lower-preserved t c =
    let rs = map held_rule c.args.rules.now in
    let before = set c.args.marks.now c.args.atom true in
    let inv = c.loop-lower.invariant in
    let (end, (some, is, next)) = c.in-Some.ensures.steps.0 in
    let n = (zip_first c.loop-lower.lower-iterator).start in
    let first = zip_second c.into_iter-lower-iterator.result in
    let (here, left) = drop_front n (iter_rest first) c.in-Some.is_used.now false _ (sym inv.4 ∙ c.in-Some.ensures.steps.1) in
    let all : iter_rest first ≡ c.atoms_used-used.result = search rules in
    let test = sym (c.atoms_used-used.ensures n (omega (arith, some, inv.2, c.requires))) ∙ ap (λ us. get_or us n false) (sym all) ∙ here in (
      search rules,
      search rules,
      end ∙ inv.2,
      omega (arith, next, some, inv.2),
      left ∙ ap (λ k. drop k (iter_rest first)) (sym next),
      subst (Underway rs c.args.atom before c.loop-lower.marks) (sym next) (underway_pass rs c.args.atom before c.loop-lower.marks n inv.5 (test ∙ c.if-is_used.false)),
    )

pub returns : goal.returns
returns t c =
    let inv = c.loop-lower.invariant in
    let n = (zip_first c.loop-lower.lower-iterator).start in
    let all : iter_rest (zip_second c.into_iter-lower-iterator.result) ≡ c.atoms_used-used.result = search rules in
    let size : length c.atoms_used-used.result ≡ 25 = search rules in
    let end : c.args.atom ≤ n = ⊎_elim
    (λ (_, (_, (none, _))). omega (arith, none, inv.2))
    (λ (_, (none, _)). omega (arith, none, ap length (inv.4 ∙ ap (drop n) all), length-drop n c.atoms_used-used.result, size, c.requires))
    c.in-None.ensures.steps in
    underway_all (map held_rule c.args.rules.now) c.args.atom c.args.marks.now c.loop-lower.marks n (omega (arith, c.told-marks, c.requires)) end inv.5
