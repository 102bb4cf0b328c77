-- The duals of a list of rows: what opposes all of them. Each list is kept minimal and in order, and refused where it passes a limit.
use Rattle.std.specs.Prelude.{◌≡◌, ℕ, zero, suc, Bool, true, false, cond, not, ◌&&◌, ◌↔◌, List, [], ◌∷◌, ◌++◌, map, length, replicate, Some, filter, Option, ◌==◌, slice_index, slice_index_or, slice_set}
use Rattle.rows.specs.Keeping.{covered, and_then, kept_all}
use Rattle.rows.specs.Minimal.{Among}
use Rattle.rows.specs.Rows.{contains, compatible, union, earlier}
use Rattle.logic.specs.Options.{Row, Options, SoundOptions, World, Formed, AllFormed}
use Rattle.logic.specs.Minimals.{under, MinimalsOf, Covers, FullExplanation}

-- the row that touches nothing
abbrev pub empty : Options → Row
empty os = replicate (length os) 0

-- the options other than x
abbrev pub others : List ℕ → ℕ → List ℕ
others o x = filter (λ n. not (n == x)) o

-- the row that touches one place alone
abbrev pub alone : Options → ℕ → ℕ → Row
alone os place n = slice_set (empty os) place n

-- each other option of a place, alone, if m touches the place
abbrev pub contrary_at : Options → Row → ℕ → List Row
contrary_at os m place = cond (slice_index m place == 0) [] (map (alone os place) (others (slice_index_or os place []) (slice_index m place)))

-- those of the places below n, in order
unfoldable pub contrary_below : Options → Row → ℕ → List Row
contrary_below os m zero = []
contrary_below os m (suc n) = contrary_below os m n ++ contrary_at os m n

abbrev pub contrary : Options → Row → List Row
contrary os m = contrary_below os m (length os)

-- what is held once each of the rows was put to `held`
abbrev pub put_rows : ℕ → List Row → List Row → Option (List Row)
put_rows limit held rows = kept_all under earlier limit held rows

-- the unions of a row with those of ys that are compatible with it
abbrev pub unions : Row → List Row → List Row
unions a ys = map (union a) (filter (compatible a) ys)

-- all consistent unions of a row of xs and one of ys: those of the first of xs come first
unfoldable pub all_unions : List Row → List Row → List Row
all_unions [] ys = []
all_unions (a ∷ xs) ys = unions a ys ++ all_unions xs ys

-- the conjunction of two lists
abbrev pub conjoined : ℕ → List Row → List Row → Option (List Row)
conjoined limit xs ys = put_rows limit [] (all_unions xs ys)

-- ds, conjoined with the contraries of each of the rows in turn
unfoldable pub duals_from : ℕ → Options → List Row → List Row → Option (List Row)
duals_from limit os ds [] = Some ds
duals_from limit os ds (m ∷ ms) = and_then (conjoined limit ds (contrary os m)) (λ es. duals_from limit os es ms)

unfoldable pub duals : ℕ → Options → List Row → Option (List Row)
duals limit os rows = duals_from limit os (empty os ∷ []) rows

-- r is compatible with none of the rows
abbrev pub Opposes : List Row → Row → Type 0
Opposes rows r = (m : Row) → Among rows m → compatible r m ≡ false

-- The theorems. A world contains a row of a conjunction exactly if it contains a row of both lists
abbrev pub ConjoinedBoth : Type 0
ConjoinedBoth =
    (limit : ℕ) (xs ys zs : List Row) (w : Row) →
    conjoined limit xs ys ≡ Some zs → covered under zs w ≡ (covered under xs w && covered under ys w)

-- The duals are exactly the minimal well-formed rows that are compatible with no member
abbrev pub DualsMinimal : Type 0
DualsMinimal =
    (limit : ℕ) (os : Options) (rows ds : List Row) → SoundOptions os → AllFormed os rows →
    duals limit os rows ≡ Some ds → MinimalsOf (λ r. Formed os r × Opposes rows r) ds

-- Two compatible rows have a world in common
abbrev pub CommonWorld : Type 0
CommonWorld =
    (os : Options) (r s : Row) → Formed os r → Formed os s → compatible r s ≡ true →
    (w : Row) × World os w × (contains w r ≡ true) × (contains w s ≡ true)

-- so a row is compatible with no member exactly if no world that contains it contains a member
abbrev pub OpposesWorlds : Type 0
OpposesWorlds =
    (os : Options) (rows : List Row) (r : Row) → AllFormed os rows → Formed os r →
    Opposes rows r ↔ ((w : Row) → World os w → contains w r ≡ true → covered under rows w ≡ false)

-- Where the rows cover G, the duals are exactly the minimal rows that force not G,
abbrev pub DualsDeny : Type 0
DualsDeny =
    (limit : ℕ) (os : Options) (rows ds : List Row) (G : Row → Bool) → SoundOptions os → AllFormed os rows → Covers os rows G →
    duals limit os rows ≡ Some ds → FullExplanation os (λ w. not (G w)) ds

-- and the duals of the duals those that force G
abbrev pub DualsAffirm : Type 0
DualsAffirm =
    (limit : ℕ) (os : Options) (rows ds es : List Row) (G : Row → Bool) → SoundOptions os → AllFormed os rows → Covers os rows G →
    duals limit os rows ≡ Some ds → duals limit os ds ≡ Some es → FullExplanation os G es
