use Rattle.std.proofs.Common.{◌≡◌, Bool, true, false, Ok, sym, refl, ap, ◌∙◌}
use Rattle.model.specs.Meaning.{meaning, held_rules}
use Rattle.explain.specs.Explaining.{counts, rows_of, worked_for}
use Rattle.explain.specs.Lists.{lists_in}
use Rattle.explain.specs.Options.{options_of}
use Rattle.explain.specs.Tables.{all_lists, side}
use Rattle.explain.proofs.Results.{answered, copied_over}
use Rattle.explain.proofs.Works.{shown_kept}
use Rattle.explain.proofs.question.answer.Goals as goal

pub returns : goal.returns
returns c =
    let os = options_of c.args.board in
    let rules = held_rules c.args.board.model.now in
    let goal = meaning c.args.goal.now in
    let lists = c.in_ok-lists.lists in
    let is : worked_for os rules goal ≡ Ok (lists_in lists) =
    answered os rules goal (all_lists c.in_ok-table.table) (lists_in lists) c.in_ok-table.ensures (shown_kept c.literal.result lists _ c.in_ok-lists.ensures.cases c.literal.ensures) in
    let shown : (b : Bool) → side b (lists_in lists) ≡ rows_of b (worked_for os rules goal) = λ b. sym (ap (rows_of b) is) in
    record {
      counts = ap Ok c.lengths.ensures ∙ ap counts (sym is);
      own = copied_over c.copy_from_slice.new.self lists.own.now c.args.own.now _ _ c.copy_from_slice.ensures.after (shown false) refl;
      negated = copied_over c.copy_from_slice-2.new.self lists.negated.now c.args.negated.now _ _ c.copy_from_slice-2.ensures.after (shown true) refl;
    }
