-- The question: the lists of a goal and of its negation, or why they are refused.
use Rattle.std.specs.Prelude.{◌≡◌, ℕ, zero, suc, ◌-◌, Bool, false, cond, ◌&&◌, List, [], ◌++◌, length, take, drop, replicate, is_some, Some, None, Ok, Err, Option, Result, nat_le}
use Rattle.logic.specs.Atoms.{Lists, lists_of, table}
use Rattle.logic.specs.Explanations.{Explained}
use Rattle.logic.specs.Needed.{needed}
use Rattle.logic.specs.Options.{Row, Options}
use Rattle.logic.specs.Rules.{Literal, is_true, is_false, chosen, not_chosen, Rule}
use Rattle.model.specs.declared.literal.Literal as code
use Rattle.model.specs.declared.model.Model.{Model}
use Rattle.model.specs.declared.refusal.Refusal.{Refusal}
use Rattle.model.specs.declared.refusal.Refusal.TheVariants.{TooManyRows}
use Rattle.model.specs.declared.suppositions.Suppositions.{Suppositions}
use Rattle.model.specs.Journal.{Journal, Agrees}
use Rattle.model.specs.Judging.{judge_question}
use Rattle.model.specs.Meaning as journal
use Rattle.model.specs.Meaning.{meaning, held_rules, all_rules}
use Rattle.model.specs.Models.{alternatives, sizes, judged}
use Rattle.explain.specs.declared.lists.Lengths.{Lengths}
use Rattle.explain.specs.declared.work.Table.{Table}
use Rattle.explain.specs.Options.{options}
use Rattle.explain.specs.Tables.{all_lists, side}

-- the atoms that a goal depends on: none where it is a choice
abbrev pub wanted : List Rule → Literal → ℕ → Bool
wanted rules (is_true goal) a = needed rules goal a
wanted rules (is_false goal) a = needed rules goal a
wanted rules (chosen place n) a = false
wanted rules (not_chosen place n) a = false

-- the atoms up to that of the goal are below this number
abbrev pub height : Literal → ℕ
height (is_true goal) = suc goal
height (is_false goal) = suc goal
height (chosen place n) = 0
height (not_chosen place n) = 0

-- the atom that was being worked where the table of those below n is refused
unfoldable pub too_wide : Options → List Rule → (ℕ → Bool) → ℕ → ℕ
too_wide os rules wanted zero = 0
too_wide os rules wanted (suc n) = cond (is_some (table 64 os rules wanted n)) n (too_wide os rules wanted n)

-- what an answer with a table says: the lists of the atoms below n stand there, or an atom's list was too long
abbrev pub WorkedUp : Result Table Refusal → Options → List Rule → (ℕ → Bool) → ℕ → Type 0
WorkedUp (Ok t) os rules wanted n = table 64 os rules wanted n ≡ Some (take n (all_lists t))
WorkedUp (Err f) os rules wanted n = (table 64 os rules wanted n ≡ None) × (f ≡ TooManyRows (too_wide os rules wanted n))

-- the lists of a goal, where those of the atoms that it depends on are worked or refused
abbrev pub told_of : Options → List Rule → Literal → Option (List Lists) → Result Lists Refusal
told_of os rules goal (Some t) = Ok (lists_of os t goal)
told_of os rules goal None = Err (TooManyRows (too_wide os rules (wanted rules goal) (height goal)))

abbrev pub worked_for : Options → List Rule → Literal → Result Lists Refusal
worked_for os rules goal = told_of os rules goal (table 64 os rules (wanted rules goal) (height goal))

-- what explaining answers; `enough` says whether the space lent to it suffices
unfoldable pub explaining : Model → Suppositions → code.Literal → Bool → Result Lists Refusal
explaining m s goal enough =
    judged (judge_question (sizes (alternatives m)) s.choices goal enough) (worked_for (options m s) (held_rules m) (meaning goal))

-- whether two result lists and a workspace of these lengths suffice
abbrev pub enough : ℕ → ℕ → ℕ → Bool
enough own negated workspace = nat_le 64 own && (nat_le 64 negated && nat_le 4096 workspace)

-- what an answer with lists shows: how many rows they have, and the rows themselves, none where it is refused
abbrev pub counts : Result Lists Refusal → Result Lengths Refusal
counts (Ok e) = Ok (record { own = length e.own; negated = length e.negated })
counts (Err f) = Err f

abbrev pub rows_of : Bool → Result Lists Refusal → List Row
rows_of b (Ok e) = side b e
rows_of b (Err f) = []

-- rows in the front of a list, in place of those that stood there
abbrev pub over : List Row → List Row → List Row
over rows before = rows ++ drop (length rows) before

-- rows, and empty rows after them, n in all
abbrev pub padded : ℕ → List Row → List Row
padded n rows = rows ++ replicate (n - length rows) (replicate 16 0)

abbrev pub negation : Literal → Literal
negation (is_true a) = is_false a
negation (is_false a) = is_true a
negation (chosen place n) = not_chosen place n
negation (not_chosen place n) = chosen place n

-- in the total choices of a journal: one list has exactly the minimal explanations of the goal, the other exactly those of its negation
pub record ExplainedIn (j : Journal) (goal : code.Literal) (own negated : List Row) : Type 0 where
  pub affirmed : Explained (journal.options j) (all_rules j) (meaning goal) own
  pub denied : Explained (journal.options j) (all_rules j) (negation (meaning goal)) negated

-- The theorem: what is answered explains the goal, for every journal that model and suppositions agree with
abbrev pub AnswersExplain : Type 0
AnswersExplain =
    (j : Journal) (m : Model) (s : Suppositions) (goal : code.Literal) (enough : Bool) (e : Lists) →
    Agrees j m s → explaining m s goal enough ≡ Ok e → ExplainedIn j goal e.own e.negated
