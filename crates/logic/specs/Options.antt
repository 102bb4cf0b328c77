-- What a world may choose at each place, the worlds, and the rows that are made of such choices.
use Rattle.std.specs.Prelude.{◌≡◌, ℕ, ◌<◌, ◌≤◌, ◌⊎◌, List, [], ◌∷◌, length}
use Rattle.std.specs.List.{AllByRecursion}
use Rattle.rows.specs.Minimal.{Among}

-- one number for each place: 0 where it is untouched, otherwise the choice made there
abbrev pub Row : Type 0
Row = List ℕ

-- for each place the choices that a world may take there: none where nothing is declared, one where it is fixed, more where it is free
abbrev pub Options : Type 0
Options = List (List ℕ)

-- every option is above 0, since 0 says that a place is untouched
abbrev pub SoundOptions : Options → Type 0
SoundOptions os = AllByRecursion (λ o. AllByRecursion (λ n. 0 < n) o) os

-- x is one of the options, or 0 where there is none
abbrev pub Taken : List ℕ → ℕ → Type 0
Taken [] x = x ≡ 0
Taken (n ∷ o) x = Among (n ∷ o) x

-- a world takes one option of every place
abbrev pub World : Options → Row → Type 0
World [] [] = Unit {0}
World [] (x ∷ xs) = ⊥
World (o ∷ os) [] = ⊥
World (o ∷ os) (x ∷ xs) = Taken o x × World os xs

-- x is 0, or one of at least two options
abbrev pub OpenChoice : List ℕ → ℕ → Type 0
OpenChoice o x = (x ≡ 0) ⊎ ((2 ≤ length o) × Among o x)

-- a well-formed row touches only places with at least two options, and holds one of them there
abbrev pub Formed : Options → Row → Type 0
Formed [] [] = Unit {0}
Formed [] (x ∷ xs) = ⊥
Formed (o ∷ os) [] = ⊥
Formed (o ∷ os) (x ∷ xs) = OpenChoice o x × Formed os xs

abbrev pub AllFormed : Options → List Row → Type 0
AllFormed os rows = AllByRecursion (Formed os) rows
