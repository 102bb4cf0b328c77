use Rattle.std.proofs.Common.{◌≡◌, [], ◌∷◌, sym, ap, ◌∙◌, arith, rules}
use Rattle.std.specs.List.{range_with_len}
use Rattle.explain.proofs.Places.{free_there, fixed_there}
use Rattle.explain.proofs.Ranges.{up_to_counting, numbers_fresh, few_fresh}
use Rattle.explain.proofs.board.Board.options_at.Goals as goal

pub returns-in-0-clause-are : goal.returns-in-0-clause-are
returns-in-0-clause-are c =
    let b = c.args.self in
    let at = c.at.ensures in
    let there = free_there b.model.now b.suppositions.now c.args.place (λ l. sym at.choice ∙ at.past l) (sym at.choice ∙ c.in-0.is) in
    there ∙ up_to_counting _ ∙ ap (range_with_len 1) (sym c.choices_at.ensures.count) ∙ sym (numbers_fresh c.new.result 1 c.choices_at.result c.choices_at.result c.new.ensures.start c.new.ensures.end c.new.ensures.exhausted (omega arith))

pub returns-in_default-clause-are : goal.returns-in_default-clause-are
returns-in_default-clause-are c =
    let b = c.args.self in
    let at = c.at.ensures in
    let there = fixed_there b.model.now b.suppositions.now c.args.place (λ l. sym at.choice ∙ at.past l) (λ e. let zero : c.at.result ≡ 0 = at.choice ∙ e in search rules) in
    there ∙ ap (λ k. k ∷ []) (sym at.choice) ∙ sym (numbers_fresh c.new-in_default.result c.at.result c.at.result 1 c.new-in_default.ensures.start c.new-in_default.ensures.end c.new-in_default.ensures.exhausted (omega arith))

pub returns-in-0-clause-few : goal.returns-in-0-clause-few
returns-in-0-clause-few c =
    let r = c.new.result in
    omega (arith, few_fresh r c.new.ensures.start c.new.ensures.end c.new.ensures.exhausted, c.choices_at.ensures.few)
