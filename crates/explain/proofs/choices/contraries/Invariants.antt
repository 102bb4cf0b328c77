use Rattle.explain.specs.Options.{options_of}
use Rattle.explain.proofs.Contraries.{Counted}
use Rattle.explain.proofs.choices.contraries.Given as goal

abbrev pub invariant-loop-place : goal.invariant-loop-place
invariant-loop-place l = Counted (options_of l.board) l.member.choices l.initial.list l.list l.place
