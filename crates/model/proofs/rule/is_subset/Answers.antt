use Rattle.std.proofs.Common.{rules, tests, ◌∙◌}
use Rattle.std.proofs.lemmas.Iterator.{YieldsList-from_slice}
use Rattle.std.proofs.lemmas.Iterator.Search.{all_from_yields_List}
use Rattle.rows.specs.Keeping.{covered}
use Rattle.model.specs.Literals.{alike}
use Rattle.model.proofs.Bodies.{each_one_of}
use Rattle.model.proofs.rule.is_subset.Goals as goal

pub returns : goal.returns
returns c =
    all_from_yields_List (covered alike c.args.others.now) _ _ _ c.all.ensures.ran (YieldsList-from_slice c.args.literals.now cc) (λ x b q k. search (rules, tests))
    ∙ each_one_of c.args.literals.now c.args.others.now
