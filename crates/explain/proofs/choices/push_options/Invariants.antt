use Rattle.std.proofs.Common.{ℕ, Bool, [], filter, get_or}
use Rattle.explain.specs.Lists.{Answers, alone_rows}
use Rattle.explain.specs.Options.{options_of, numbers_in}
use Rattle.explain.proofs.Appends.{Begun}
use Rattle.explain.proofs.choices.push_options.Given as goal

abbrev pub invariant-loop-option : goal.invariant-loop-option
invariant-loop-option g l =
    (goal.iterator-loop-option g).can_next l.option-iterator ×
    (goal.iterator-loop-option g).is_finite l.option-iterator ×
    ((p : ℕ → Bool) → Answers (λ n. g.F.Fn.post l.wanted (n, tt)) p →
    Begun l.initial.list l.list l.place p (numbers_in l.option-iterator) (alone_rows l.place (filter p (get_or (options_of l.board) l.place []))))
