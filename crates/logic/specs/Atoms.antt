-- The two lists of each atom, its minimal explanations and those of its negation, worked out from the lowest atom up.
-- As soon as a list passes the limit, all is refused.
use Rattle.std.specs.Prelude.{◌≡◌, ℕ, zero, suc, ◌<◌, ◌≤◌, Bool, true, cond, not, List, [], ◌∷◌, ◌++◌, map, length, get_or, Some, filter, Option, ◌==◌, nat_eq, nat_lt, slice_index_or}
use Rattle.std.specs.Option.{option_map, option_zip}
use Rattle.rows.specs.Keeping.{and_then}
use Rattle.rows.specs.Minimal.{Among, Ascending}
use Rattle.logic.specs.Options.{Row, Options, SoundOptions}
use Rattle.logic.specs.Rules.{Literal, is_true, is_false, chosen, not_chosen, Rule, Layered, rules_for}
use Rattle.logic.specs.Needed.{Closed, needed}
use Rattle.logic.specs.Explanations.{Explained}
use Rattle.logic.specs.Duals.{empty, alone, put_rows, conjoined, duals}

-- what explains something, and what explains its negation
pub record Lists : Type 0 where
  pub own : List Row
  pub negated : List Row

abbrev pub nothing : Lists
nothing = record { own = []; negated = [] }

abbrev pub exchanged : Lists → Lists
exchanged e = record { own = e.negated; negated = e.own }

-- the rows for a number at a place that passes p, where o are the options of the place:
-- the empty row or nothing where a world has only one number to take there, each option that passes where it has more
unfoldable pub rows_at : Options → ℕ → (ℕ → Bool) → List ℕ → List Row
rows_at os place p [] = cond (p 0) (empty os ∷ []) []
rows_at os place p (n ∷ []) = cond (p n) (empty os ∷ []) []
rows_at os place p (n ∷ (m ∷ o)) = map (alone os place) (filter p (n ∷ (m ∷ o)))

abbrev pub choice_lists : Options → ℕ → ℕ → Lists
choice_lists os place n = record {
  own = rows_at os place (λ m. nat_eq m n) (slice_index_or os place []);
  negated = rows_at os place (λ m. not (m == n)) (slice_index_or os place []);
}

-- the lists of a literal, where t has those of the lower atoms
abbrev pub lists_of : Options → List Lists → Literal → Lists
lists_of os t (is_true a) = slice_index_or t a nothing
lists_of os t (is_false a) = exchanged (slice_index_or t a nothing)
lists_of os t (chosen place n) = choice_lists os place n
lists_of os t (not_chosen place n) = exchanged (choice_lists os place n)

-- the rows, conjoined with each literal's own list in turn
unfoldable pub body_from : ℕ → Options → List Lists → List Row → List Literal → Option (List Row)
body_from limit os t rows [] = Some rows
body_from limit os t rows (l ∷ ls) = and_then (conjoined limit rows (lists_of os t l).own) (λ next. body_from limit os t next ls)

-- `held`, to which the rows of each rule's body were put in turn
unfoldable pub bodies_from : ℕ → Options → List Lists → List Row → List Rule → Option (List Row)
bodies_from limit os t held [] = Some held
bodies_from limit os t held (r ∷ rs) =
    and_then (body_from limit os t (empty os ∷ []) r.body) (λ rows.
    and_then (put_rows limit held rows) (λ next. bodies_from limit os t next rs))

-- the lists of the atom a: the duals of its rules' bodies, and the duals of those
abbrev pub negated_list : ℕ → Options → List Rule → List Lists → ℕ → Option (List Row)
negated_list limit os rules t a = and_then (bodies_from limit os t [] (rules_for rules a)) (duals limit os)

abbrev pub own_list : ℕ → Options → List Rule → List Lists → ℕ → Option (List Row)
own_list limit os rules t a = and_then (negated_list limit os rules t a) (duals limit os)

unfoldable pub worked : ℕ → Options → List Rule → List Lists → ℕ → Option Lists
worked limit os rules t a =
    option_map (λ both. record { own = both.0; negated = both.1 }) (option_zip (own_list limit os rules t a) (negated_list limit os rules t a))

-- the lists of the atoms below n, one after another; of those that are not wanted, nothing is worked out
unfoldable pub table : ℕ → Options → List Rule → (ℕ → Bool) → ℕ → Option (List Lists)
table limit os rules wanted zero = Some []
table limit os rules wanted (suc n) =
    and_then (table limit os rules wanted n) (λ t.
    option_map (λ e. t ++ (e ∷ [])) (cond (wanted n) (worked limit os rules t n) (Some nothing)))

-- The theorems. The table has the minimal explanations of each wanted atom and of its negation
abbrev pub TableExplains : Type 0
TableExplains =
    (limit : ℕ) (os : Options) (rules : List Rule) (wanted : ℕ → Bool) (n : ℕ) (t : List Lists) →
    SoundOptions os → Layered rules → Closed rules wanted → table limit os rules wanted n ≡ Some t →
    (a : ℕ) → a < n → wanted a ≡ true →
    Explained os rules (is_true a) (get_or t a nothing).own × Explained os rules (is_false a) (get_or t a nothing).negated

-- The table of what a goal needs has the minimal explanations of the goal and of its negation
abbrev pub GoalExplains : Type 0
GoalExplains =
    (limit : ℕ) (os : Options) (rules : List Rule) (goal : ℕ) (t : List Lists) →
    SoundOptions os → Layered rules → table limit os rules (needed rules goal) (suc goal) ≡ Some t →
    Explained os rules (is_true goal) (get_or t goal nothing).own × Explained os rules (is_false goal) (get_or t goal nothing).negated

-- The lists of a choice have its minimal explanations and those of its negation: where a place has several options, the choice is one of them
abbrev pub ChoiceExplains : Type 0
ChoiceExplains =
    (os : Options) (rules : List Rule) (place n : ℕ) → SoundOptions os → Ascending nat_lt (slice_index_or os place []) → (2 ≤ length (slice_index_or os place []) → Among (slice_index_or os place []) n) →
    Explained os rules (chosen place n) (choice_lists os place n).own × Explained os rules (not_chosen place n) (choice_lists os place n).negated
