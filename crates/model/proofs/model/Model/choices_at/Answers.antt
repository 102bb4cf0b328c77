use Rattle.std.proofs.Common.{◌≡◌, ◌∙◌, get_or, arith, rules}
use Rattle.model.proofs.Tables.{nowhere, choices_found, choices_at, few_at}
use Rattle.model.proofs.model.Model.choices_at.Goals as goal
use Rattle.model.proofs.model.Model.choices_at.Goals.{After-map_or}

found : (c : After-map_or) → c.map_or.result ≡ (get_or c.args.self.now.alternatives c.args.place nowhere).choices
found c = choices_found c.args.self.now.alternatives c.args.place c.map_or.result c.get.result c.get.ensures.lookup (search rules)

pub returns : goal.returns
returns c =
    let m = c.args.self.now in
    let few = few_at m.alternatives m.declared m.places m.few m.canonical m.unused c.args.place in
    record { count = found c ∙ choices_at m.alternatives m.declared m.places m.few m.canonical m.unused c.args.place; few = omega (arith, found c) }
