use Rattle.std.proofs.Common.{◌≡◌, ◌+◌, ◌<◌, suc, map, length, take, Some, sym, ap, ◌∙◌, arith, rules}
use Rattle.std.proofs.lemmas.List.{length-set}
use Rattle.std.proofs.lemmas.Result.{err_from_is_err_and}
use Rattle.logic.specs.Atoms.{table}
use Rattle.model.specs.declared.refusal.Refusal.TheVariants.{TooManyRows}
use Rattle.model.specs.Meaning.{held_rules}
use Rattle.explain.specs.Lists.{lists_in}
use Rattle.explain.specs.Marks.{marked}
use Rattle.explain.specs.Options.{options_of}
use Rattle.explain.proofs.Upward.{Upto, upto_none, upto_work, upto_pass, upto_stops}
use Rattle.explain.proofs.Works.{told_kept, told_refused}
use Rattle.explain.proofs.work.work_up.Goals as goal
use Rattle.explain.proofs.work.work_up.Goals.{then-marks-at+in-len2-up+in_ok-lists, else-marks-at, else-loop-atom-test, then-loop-atom-test+else-atom-counter-last}

pub loop-atom-init : goal.loop-atom-init
loop-atom-init c =
    record { room = omega (arith, c.requires.room); size = search rules; upto = upto_none (options_of c.args.board) (held_rules c.args.board.model.now) (marked c.args.marks.now) 25 c.nothing-lists.result c.nothing-lists.ensures }

pub loop-atom-preserved : goal.loop-atom-preserved
loop-atom-preserved c =
    let os = options_of c.args.board in
    let rules = held_rules c.args.board.model.now in
    let wanted = marked c.args.marks.now in
    let inv = c.loop-atom.invariant in
    let n = c.loop-atom.atom-counter in
    let lists = c.loop-atom.lists in
    let low : n < length lists = omega (arith, c.requires.last, c.loop-atom-test.true, inv.size) in
    elim c.if-marks-at.branch [
      | then-marks-at+in-len2-up+in_ok-lists w ↦
          let l = w.in_ok-lists.field-0 in
          let told = told_kept w.work-found.result l w.in_ok-lists.ensures.cases ∙ w.work-found.ensures in
          rw (w.lists-is, w.places-is) (record {
            room = omega (arith, inv.room, w.in-len2-up.len_at_least);
            size = length-set lists n l ∙ inv.size;
            upto = upto_work os rules wanted n lists low inv.upto l w.if-marks-at.true told;
          })
      | else-marks-at w ↦ rw (w.lists-is, w.places-is) (record { room = omega (arith, inv.room); size = inv.size; upto = upto_pass os rules wanted n lists low inv.upto w.if-marks-at.false })
    ]

pub returns-in_err-lists : goal.returns-in_err-lists
returns-in_err-lists c =
    let os = options_of c.args.board in
    let rules = held_rules c.args.board.model.now in
    let wanted = marked c.args.marks.now in
    let inv = c.loop-atom.invariant in
    let n = c.loop-atom.atom-counter in
    let low : n < length c.loop-atom.lists = omega (arith, c.requires.last, c.loop-atom-test.true, inv.size) in
    let p = err_from_is_err_and c.from_residual.result c.from_residual.ensures.1 in
    let e = c.in_err-lists.field-0.0 in
    let (none, refused) = told_refused c.work-found.result e (TooManyRows n) _ (λ f h. search) c.in_err-lists.ensures.cases in
    let (stops, at) = upto_stops os rules wanted n c.loop-atom.lists low inv.upto c.if-marks-at.true (none ∙ c.work-found.ensures) (suc c.args.last) (omega (arith, c.loop-atom-test.true)) in
    rw p.1 (stops, p.2 ∙ refused ∙ ap TooManyRows at)

pub returns : goal.returns
returns c =
    let os = options_of c.args.board in
    let rules = held_rules c.args.board.model.now in
    let wanted = marked c.args.marks.now in
    let inv = c.loop-atom.invariant in
    let n = c.loop-atom.atom-counter in
    let lists = c.loop-atom.lists in
    elim c.loop-atom-test.branch [
      | else-loop-atom-test w ↦ absurd (omega (arith, w.loop-atom-test.false, c.loop-atom.auto.atom-counter-end))
      | then-loop-atom-test+else-atom-counter-last w ↦
          let end : n + 1 ≡ suc c.args.last = omega arith in
          let low : n < length lists = omega (arith, c.requires.last, w.loop-atom-test.true, inv.size) in
          let done : Upto os rules wanted (n + 1) (map lists_in w.if-marks-at.lists) = elim w.if-marks-at.branch [
            | then-marks-at+in-len2-up+in_ok-lists v ↦
                let l = v.in_ok-lists.field-0 in
                let told = told_kept v.work-found.result l v.in_ok-lists.ensures.cases ∙ v.work-found.ensures in
                rw v.lists-is (upto_work os rules wanted n lists low inv.upto l v.if-marks-at.true told)
            | else-marks-at v ↦ rw v.lists-is (upto_pass os rules wanted n lists low inv.upto v.if-marks-at.false)
          ] in
          ap (table 64 os rules wanted) (sym end) ∙ done.below ∙ ap (λ k. Some (take k (map lists_in w.if-marks-at.lists))) end ∙ ap (λ ls. Some (take (suc c.args.last) (map lists_in ls))) (sym w.lists-is)
    ]
