-- Flags that are written one after another from the first place on.
use Rattle.std.proofs.Common.{◌≡◌, ℕ, suc, Bool, List, [], ◌∷◌, map, set, refl, ap, ◌∙◌}
use Rattle.model.specs.declared.model.Model.{Model}
use Rattle.model.specs.declared.suppositions.Suppositions.{Suppositions}
use Rattle.model.specs.Journal.{Journal}
use Rattle.session.specs.declared.call.Call.{Call}
use Rattle.session.specs.Running.{flagged, Finished}
use Rattle.session.specs.Sessions.{called, acceptances, overwritten}

flagged_next : (new : List Bool) (f : Bool) (flags : List Bool) (at : ℕ) → flagged (f ∷ flags) (suc at) new ≡ f ∷ flagged flags at new
flagged_next [] f flags at = refl
flagged_next (b ∷ new) f flags at = flagged_next new f (set flags at b) (suc at)

flagged_nowhere : (new : List Bool) (at : ℕ) → flagged [] at new ≡ []
flagged_nowhere [] at = refl
flagged_nowhere (b ∷ new) at = flagged_nowhere new (suc at)

flagged_first : (flags new : List Bool) → flagged flags 0 new ≡ overwritten flags new
flagged_first [] [] = refl
flagged_first (f ∷ flags) [] = refl
flagged_first [] (b ∷ new) = flagged_nowhere new 1
flagged_first (f ∷ flags) (b ∷ new) = flagged_next new b flags 0 ∙ ap (λ l. b ∷ l) (flagged_first flags new)

-- the flags of a run over all calls
pub run_flags : {j : Journal} {calls : List Call} {before behind : List Bool} {m : Model} {s : Suppositions} → Finished j calls 0 before behind m s → behind ≡ overwritten before (acceptances j (map called calls))
run_flags {j} {calls} {before} f = f.flags ∙ flagged_first before (acceptances j (map called calls))
