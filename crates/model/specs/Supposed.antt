-- Suppositions: for each alternative the choice at which it is supposed, or 0.
use Rattle.std.specs.Prelude.{ℕ, ◌-◌, cond, ◌&&◌, List, Ok, Err, Result, ◌==◌, slice_index, slice_set}
use Rattle.model.specs.declared.refusal.Refusal.{Refusal}
use Rattle.model.specs.declared.refusal.Refusal.TheVariants.{NotDeclared, AlreadySupposed}
use Rattle.model.specs.Judging.{is_declared}
use Rattle.model.specs.Models.{sizes}

-- whether a choice may be supposed
abbrev pub checking : List (List ℕ) → List ℕ → ℕ → ℕ → Result (Unit {0}) Refusal
checking as' supposed alternative choice =
    cond (is_declared (sizes as') alternative choice)
    (cond (slice_index supposed (alternative - 1) == 0) (Ok tt) (Err AlreadySupposed))
    (Err (NotDeclared 0))

-- what is supposed once a supposing began: nothing more where the check refuses
abbrev pub supposing : List (List ℕ) → List ℕ → ℕ → ℕ → List ℕ
supposing as' supposed alternative choice =
    cond (is_declared (sizes as') alternative choice && slice_index supposed (alternative - 1) == 0) (slice_set supposed (alternative - 1) choice) supposed
