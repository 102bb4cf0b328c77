use Rattle.std.proofs.Common.{◌≡◌, ◌<◌, ◌≤◌, List, [], ◌∷◌, length, filter, get_or, sym, refl, ap, ◌∙◌, subst, arith, rules}
use Rattle.std.proofs.lemmas.Bool.{cond-true, cond-false}
use Rattle.rows.specs.Lending.{items}
use Rattle.rows.specs.declared.row.Row.{Row}
use Rattle.logic.specs.Atoms.{rows_at}
use Rattle.explain.specs.Lists.{as_lists, alone_rows}
use Rattle.explain.specs.Options.{options_of}
use Rattle.explain.proofs.Appends.{alone_few, alone_items, never_full}
use Rattle.explain.proofs.Places.{options_length, rows_several, rows_single}
use Rattle.explain.proofs.Ranges.{few_fresh, numbers_single}
use Rattle.explain.proofs.choices.choice_rows.Goals as goal
use Rattle.explain.proofs.choices.choice_rows.Goals.{then-first-last+in_ok-push_options, else-first-last, then-wanted+in_ok-push, else-wanted}

pub returns-in_err-push_options : goal.returns-in_err-push_options
returns-in_err-push_options g c = λ p a.
    let o = get_or (options_of c.args.board) c.args.place [] in
    let opts = c.options_at.ensures in
    absurd (never_full c.new-list.result c.push_options.new.list c.new-list.ensures.empty (alone_rows c.args.place (filter p o)) {n = 8}
    (omega (arith, c.requires.room, ap length {x = c.new-list.result.places.now} c.new-list.ensures.same)) (omega (arith, alone_few c.args.place p o, opts.few, ap length opts.are)) (c.in_err-push_options.ensures p a))

pub returns : goal.returns
returns g c = λ p a.
    let b = c.args.board in
    let os = options_of b in
    let o = get_or os c.args.place [] in
    let opts = c.options_at.ensures in
    let record { start = start; end = end } = c.into_inner-first.ensures in
    let last = c.into_inner-first.result.1 in
    let fits : last < 256 = search rules in
    let sixteen = options_length b.model.now b.suppositions.now in
    let fresh = c.new-list.result in
    let empty = c.new-list.ensures.empty in
    let listed : List Row → Type 0 = λ rows. (as_lists rows ≡ rows_at os c.args.place p o) × (length rows ≤ 8) in
    subst listed (sym c.into_slice.ensures) (elim c.if-first-last.branch [
      | then-first-last+in_ok-push_options w ↦
          let all = alone_rows c.args.place (filter p o) in
          let is = ap items w.list-is ∙ alone_items fresh w.push_options.new.list empty all (w.in_ok-push_options.ensures p a) in
          let two = few_fresh c.options_at.result (sym start) (sym end) opts.fresh in
          subst listed (sym is) (rows_several os sixteen c.args.place o refl p (omega (arith, w.if-first-last.true, ap length opts.are, two)), omega (arith, alone_few c.args.place p o, opts.few, ap length opts.are))
      | else-first-last w ↦
          let single = numbers_single c.options_at.result (sym start) (sym end) opts.fresh (omega (arith, w.if-first-last.false)) opts.none in
          let rows = rows_single os sixteen c.args.place _ opts.are p last single in
          let test = sym (a last w.wanted.result fits w.wanted.ensures) in
          elim w.if-wanted.branch [
            | then-wanted+in_ok-push v ↦
                let is = ap items (w.list-is ∙ v.list-is) ∙ alone_items fresh v.push.new.self empty (v.empty.result ∷ []) v.in_ok-push.ensures.grown in
                subst listed (sym is) (ap (λ cs. cs ∷ []) v.empty.ensures ∙ sym (rows ∙ cond-true _ _ _ (test ∙ v.if-wanted.true)), omega arith)
            | else-wanted v ↦
                let is = ap items (w.list-is ∙ v.list-is) ∙ empty in
                subst listed (sym is) (sym (rows ∙ cond-false _ _ _ (test ∙ v.if-wanted.false)), omega arith)
          ]
    ])
