use Rattle.std.proofs.Common.{◌≡◌, true, refl}
use Rattle.std.specs.List.{AllByRecursion}
use Rattle.std.proofs.lemmas.Result.{MatchResult-weaker}
use Rattle.rows.specs.declared.row.Row.{Row}
use Rattle.rows.proofs.Members.{all_from_among}
use Rattle.rows.proofs.run.minimal_rows.Goals as goal

pub returns : goal.returns
returns c =
    let run = c.put_all.ensures in
    let valid : AllByRecursion (λ (r : Row). true ≡ true) c.args.from.now = all_from_among (λ (r : Row). true ≡ true) c.args.from.now (λ _ _. refl) in
    record { defined = run.defined; fits = run.fits; past = run.past; minimal = run.minimal valid; worlds = MatchResult-weaker c.put_all.result (run.covering valid) (λ n seen w. seen w refl) (λ _ u. u) }
