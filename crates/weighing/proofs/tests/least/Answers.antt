use Rattle.std.proofs.Common.{◌^◌, ◌<◌, ◌∙◌, arith, rules}
use Rattle.std.proofs.ByRecursion.{All-from_get_or}
use Rattle.weighing.specs.Efforts.{least_of}
use Rattle.weighing.proofs.Efforts.{Fitting, cost_of_same, least_fits, total_means}
use Rattle.weighing.proofs.tests.least.Goals as goal

pub returns : goal.returns
returns c =
    let raws = c.args.raws.now in
    let fits : Fitting c.total.result = λ n is. (let ok = rw is at c.total.type_inv in search rules) in
    let small = All-from_get_or (λ raw. raw < 2 ^ 32) raws 0 (λ i _. omega (arith, c.type_inv.raws i)) in
    cost_of_same c.total.result (least_of raws) fits (least_fits raws small) (c.total.ensures ∙ total_means raws)
