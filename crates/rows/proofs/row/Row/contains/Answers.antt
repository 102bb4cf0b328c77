use Rattle.std.proofs.Common.{rules, tests, eqb, ◌||◌, sym, ◌∙◌}
use Rattle.std.proofs.lemmas.Iterator.{YieldsList-from_slice, YieldsList-from_zip}
use Rattle.std.proofs.lemmas.Iterator.Search.{all_from_yields_List}
use Rattle.rows.proofs.Chains.{contains_all}
use Rattle.rows.proofs.row.Row.contains.Goals as goal

pub returns : goal.returns
returns c =
    let mine = c.args.self.now.choices in
    let theirs = c.args.other.now.choices in
    all_from_yields_List (λ p. eqb p.1 0 || eqb p.0 p.1) c.all.new.self _ c.all.result c.all.ensures.ran (YieldsList-from_zip {s = c.zip.result} (YieldsList-from_slice mine (search rules)) (YieldsList-from_slice theirs (search rules))) (λ x b q k. search (rules, tests))
    ∙ sym (contains_all mine theirs (search rules))
