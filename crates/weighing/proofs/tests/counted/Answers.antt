use Rattle.std.proofs.Common.{◌^◌, ◌<◌, sym, ap, ◌∙◌, mod-eq_of_lt, rules}
use Rattle.weighing.specs.Residues.{Residue}
use Rattle.weighing.specs.ResiduesLemmas.{total_means}
use Rattle.weighing.proofs.tests.counted.Goals as goal

pub returns : goal.returns
returns c =
    let fits : c.total.result.0 < 2 ^ 64 = search rules in
    sym (mod-eq_of_lt fits) ∙ ap (λ (x : Residue). x.number) (c.total.ensures ∙ total_means c.args.raws.now)
