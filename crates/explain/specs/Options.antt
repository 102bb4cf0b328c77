-- What a world may take at each place, for the alternatives of a model under suppositions.
use Rattle.std.specs.Prelude.{ℕ, ◌-◌, List}
use Rattle.std.specs.List.{range_with_len}
use Rattle.std.specs.Range.{range_inclusive_start, range_inclusive_left}
use Rattle.std.specs.declared.ops.RangeInclusive.{RangeInclusive}
use Rattle.logic.specs.Options.{Options}
use Rattle.model.specs.declared.model.Model.{Model}
use Rattle.model.specs.declared.suppositions.Suppositions.{Suppositions}
use Rattle.model.specs.Meaning.{options_below}
use Rattle.model.specs.Models.{alternatives, sizes}
use Rattle.explain.specs.declared.board.Board.{Board}

unfoldable pub options : Model → Suppositions → Options
options m s = options_below (sizes (alternatives m)) s.choices 16

-- the same, of a board
abbrev pub options_of : Board → Options
options_of b = options b.model.now b.suppositions.now

-- the numbers that a range has left
abbrev pub numbers_in : RangeInclusive ℕ → List ℕ
numbers_in r = range_with_len (range_inclusive_start r) (range_inclusive_left (λ x y. y - x) r)
