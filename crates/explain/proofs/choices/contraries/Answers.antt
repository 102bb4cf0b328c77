use Rattle.std.proofs.Common.{not, eqb, ℕ, Bool, length, get_or, [], filter, sym, refl, ap, ◌∙◌, arith, rules}
use Rattle.logic.specs.Duals.{contrary_below}
use Rattle.explain.specs.Lists.{as_lists, alone_rows}
use Rattle.explain.specs.Options.{options_of}
use Rattle.explain.proofs.Appends.{alone_few}
use Rattle.explain.proofs.Contraries.{counted_none, counted_same, counted_more, counted_full, counted_all}
use Rattle.explain.proofs.Places.{options_length, options_few, contrary_none, contrary_some}
use Rattle.explain.proofs.choices.contraries.Goals as goal
use Rattle.explain.proofs.choices.contraries.Goals.{then-choice-ne0+in_ok-push_options, else-choice-ne0}

pub loop-place-init : goal.loop-place-init
loop-place-init c = counted_none (options_of c.args.board) c.args.member.now.choices c.new-list.result

pub loop-place-preserved : goal.loop-place-preserved
loop-place-preserved c =
    let b = c.args.board in
    let os = options_of b in
    let r = c.args.member.now.choices in
    let place = c.loop-place.place in
    let o = get_or os place [] in
    let sixteen = options_length b.model.now b.suppositions.now in
    let p : ℕ → Bool = λ n. not (eqb n (get_or r place 0)) in
    elim c.if-choice-ne0.branch [
      | then-choice-ne0+in_ok-push_options w ↦
          let few = options_few b.model.now b.suppositions.now place (λ l. absurd (omega (arith, c.loop-place-test.true))) in
          rw w.list-is (counted_more os r c.new-list.result c.loop-place.list place w.push_options.new.list (alone_rows place (filter p o)) (omega (arith, few, alone_few place p o))
          (contrary_some os sixteen place o refl r w.if-choice-ne0.true) (w.in_ok-push_options.ensures p (λ n t fits e. search rules)) c.loop-place.invariant)
      | else-choice-ne0 w ↦ rw w.list-is (counted_same os r c.new-list.result c.loop-place.list place (contrary_none os sixteen place o refl r w.if-choice-ne0.false) c.loop-place.invariant)
    ]

pub returns-in_err-push_options : goal.returns-in_err-push_options
returns-in_err-push_options c =
    let b = c.args.board in
    let os = options_of b in
    let r = c.args.member.now.choices in
    let place = c.loop-place.place in
    let p : ℕ → Bool = λ n. not (eqb n (get_or r place 0)) in
    let few = options_few b.model.now b.suppositions.now place (λ l. absurd (omega (arith, c.loop-place-test.true))) in
    absurd (counted_full os r c.new-list.result c.loop-place.list place c.push_options.new.list (alone_rows place (filter p (get_or os place []))) (omega (arith, few, alone_few place p (get_or os place [])))
    c.new-list.ensures.empty (omega (arith, c.told-places, ap length c.new-list.ensures.same)) c.loop-place-test.true (c.in_err-push_options.ensures p (λ n t fits e. search rules)) c.loop-place.invariant)

pub returns : goal.returns
returns c =
    let b = c.args.board in
    let os = options_of b in
    let r = c.args.member.now.choices in
    ap as_lists c.into_slice.ensures
    ∙ counted_all os r c.new-list.result c.loop-place.list c.loop-place.place c.new-list.ensures.empty (omega (arith, c.loop-place.auto.place-end, c.loop-place-test.false)) c.loop-place.invariant
    ∙ ap (contrary_below os r) (sym (options_length b.model.now b.suppositions.now))
