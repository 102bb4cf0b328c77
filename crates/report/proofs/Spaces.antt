-- The fields of a line, each behind a space.
use Rattle.std.proofs.Common.{◌≡◌, ℕ, ◌+◌, ◌≤◌, true, List, [], ◌∷◌, ◌++◌, map, length, Ok, Err, is_ok, Result, refl, ap, ◌∙◌, arith}
use Rattle.std.specs.List.{flat_map}
use Rattle.std.proofs.lemmas.List.{append_assoc, length-append}
use Rattle.rows.specs.declared.lent.Lent.{Lent}
use Rattle.rows.specs.Lending.{items, room, Grown}
use Rattle.report.specs.declared.lines.Field.{Field}
use Rattle.report.specs.Fields.{text}
use Rattle.report.specs.Lines.{spaced}

-- a field behind a space
abbrev pub field_bytes : Field → List ℕ
field_bytes f = 32 ∷ text f

pub spaced_is : (fields : List Field) → flat_map field_bytes fields ++ (10 ∷ []) ≡ spaced (map text fields)
spaced_is [] = refl
spaced_is (f ∷ fields) = append_assoc (field_bytes f) (flat_map field_bytes fields) (10 ∷ []) ∙ ap (λ bs. field_bytes f ++ bs) (spaced_is fields)

-- where there is room for as many bytes as there are at most, they are written
pub fits_most : {E : Type 0} (most : ℕ) (before after : Lent ℕ) (bytes : List ℕ) (r : Result (Unit {0}) E) → Grown before after bytes r → length bytes ≤ most → length (items before) + most ≤ room before → is_ok r ≡ true
fits_most most before after bytes (Ok u) grown short free = refl
fits_most most before after bytes (Err e) grown short free = absurd (omega (arith, grown.1, length-append (items before) bytes))
