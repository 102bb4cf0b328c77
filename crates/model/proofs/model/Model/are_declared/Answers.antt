use Rattle.std.proofs.Common.{◌≡◌, ◌||◌, eqb, length, rules, refl, sym, ap, tests, ◌∙◌}
use Rattle.std.specs.List.{list_all, range_with_len, zip}
use Rattle.std.proofs.lemmas.Iterator.{YieldsList-from_slice, YieldsList-from_range, YieldsList-from_zip}
use Rattle.std.proofs.lemmas.Iterator.Search.{all_from_yields_List}
use Rattle.model.specs.Judging.{is_declared}
use Rattle.model.specs.Models.{alternatives, sizes}
use Rattle.model.proofs.Tables.{each_declared}
use Rattle.model.proofs.model.Model.are_declared.Goals as goal

pub returns : goal.returns
returns c =
    let ns = sizes (alternatives c.args.self.now) in
    let choices = c.args.suppositions.now.choices in
    let long : length choices ≡ 16 = search rules in
    all_from_yields_List (λ p. eqb p.0 0 || is_declared ns p.1 p.0) c.all.new.self _ c.all.result c.all.ensures.ran (YieldsList-from_zip (YieldsList-from_slice choices (cc)) (YieldsList-from_range 1 17 16 (cc) refl)) (λ x b q k. search (rules, tests))
    ∙ ap (λ n. list_all (λ p. eqb p.0 0 || is_declared ns p.1 p.0) (zip choices (range_with_len 1 n))) (sym long)
    ∙ each_declared ns 1 choices
