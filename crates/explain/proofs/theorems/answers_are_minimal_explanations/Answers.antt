use Rattle.explain.proofs.Explains.{answers_explain}
use Rattle.explain.proofs.theorems.answers_are_minimal_explanations.Goals as goal

pub returns : goal.returns
returns c = answers_explain
