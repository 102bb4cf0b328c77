-- What a journal says of worlds: which total choices there are, and what holds in them.
use Rattle.std.specs.Prelude.{◌≡◌, ℕ, zero, suc, ◌-◌, cond, List, [], ◌∷◌, ◌++◌, map, ◌==◌, slice_index}
use Rattle.logic.specs.Options.{Row, Options, World}
use Rattle.logic.specs.Rules as logic
use Rattle.model.specs.declared.literal.Literal.{Literal}
use Rattle.model.specs.declared.model.Model.{Model}
use Rattle.model.specs.declared.rule.Rule.{Rule}
use Rattle.model.specs.declared.suppositions.Suppositions.{Suppositions}
use Rattle.model.specs.Journal.{Stated, Journal, Agrees}
use Rattle.model.specs.Models.{rules, sizes}
use Rattle.model.specs.Rules.{literals}

-- the numbers 1 to n
abbrev pub up_to : ℕ → List ℕ
up_to zero = []
up_to (suc n) = up_to n ++ (suc n ∷ [])

-- what a world may take at a place: the supposed choice alone, or any of the choices that are declared there
abbrev pub options_at : List ℕ → List ℕ → ℕ → List ℕ
options_at ns supposed place = cond (slice_index supposed place == 0) (up_to (slice_index ns place)) (slice_index supposed place ∷ [])

-- the options of the first n places
abbrev pub options_below : List ℕ → List ℕ → ℕ → Options
options_below ns supposed zero = []
options_below ns supposed (suc n) = options_below ns supposed n ++ (options_at ns supposed n ∷ [])

abbrev pub options : Journal → Options
options j = options_below (sizes j.declared) j.supposed 16

-- a total choice: one choice of every declared alternative, and the supposed one where there is one
abbrev pub TotalChoice : Journal → Row → Type 0
TotalChoice j w = World (options j) w

-- what a literal of three bytes says
abbrev pub meaning : Literal → logic.Literal
meaning l =
    cond (l.kind == 0) (logic.is_true l.first)
    (cond (l.kind == 1) (logic.is_false l.first)
    (cond (l.kind == 2) (logic.chosen (l.first - 1) l.second) (logic.not_chosen (l.first - 1) l.second)))

-- a rule as it was stated, and as it is held
abbrev pub stated_rule : Stated → logic.Rule
stated_rule s = record { head = s.head; body = map meaning s.body }

abbrev pub held_rule : Rule → logic.Rule
held_rule r = record { head = r.head; body = map meaning (literals r) }

-- all rules of a journal, and those that a model holds
abbrev pub all_rules : Journal → List logic.Rule
all_rules j = map stated_rule j.stated

abbrev pub held_rules : Model → List logic.Rule
held_rules m = map held_rule (rules m)

-- The theorems. A journal determines the model and the suppositions that agree with it
abbrev pub Determined : Type 0
Determined = (j : Journal) (m n : Model) (s t : Suppositions) → Agrees j m s → Agrees j n t → (m ≡ n) × (s ≡ t)

-- The rules of a journal are layered, so that in every world just one truth of the atoms is stable
abbrev pub RulesLayered : Type 0
RulesLayered = (j : Journal) (m : Model) (s : Suppositions) → Agrees j m s → logic.Layered (all_rules j) × logic.Layered (held_rules m)

-- The rules that a model holds make the same atoms true as all rules of its journal
abbrev pub HeldAlike : Type 0
HeldAlike = (j : Journal) (m : Model) (s : Suppositions) → Agrees j m s → (w : Row) (a : ℕ) → logic.truth (held_rules m) w a ≡ logic.truth (all_rules j) w a
