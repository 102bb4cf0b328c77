-- The atoms that a goal depends on are those that are marked for it.
use Rattle.std.proofs.Common.{◌≡◌, ℕ, suc, ◌-◌, ◌<◌, ◌≤◌, Bool, true, false, cond, eqb, List, map, take, replicate, Some, Ok, Err, Result, sym, refl, ap, ◌∙◌, subst, ⊎_elim, arith}
use Rattle.std.proofs.lemmas.List.{get_or-take}
use Rattle.std.proofs.lemmas.Bool.{cases_eq, both_ways, cond-true, cond-false, eq-eqb, ne_eqb}
use Rattle.logic.specs.Atoms.{Lists, nothing, exchanged, lists_of, table}
use Rattle.logic.specs.Needed.{needed}
use Rattle.logic.specs.Options.{Options}
use Rattle.logic.specs.Rules as logic
use Rattle.logic.proofs.Needs.{needed_only}
use Rattle.logic.proofs.Tables.{table_alike}
use Rattle.model.specs.declared.literal.Literal.{Literal}
use Rattle.model.specs.declared.model.Model.{Model}
use Rattle.model.specs.declared.rule.Rule.{Rule}
use Rattle.model.specs.Meaning.{meaning, held_rule, held_rules}
use Rattle.model.specs.Models.{rules}
use Rattle.model.proofs.Soundness.{held_layered}
use Rattle.model.specs.declared.refusal.Refusal.{Refusal}
use Rattle.model.specs.declared.refusal.Refusal.TheVariants.{TooManyRows}
use Rattle.explain.specs.declared.work.Table.{Table}
use Rattle.explain.specs.Explaining.{wanted, height, WorkedUp}
use Rattle.explain.specs.Marks.{marked, Marked}
use Rattle.explain.proofs.Marking.{unmarked}
use Rattle.explain.proofs.Upward.{wide_alike}

-- a literal is of an atom, or of a choice
pub atom_meaning : (P : logic.Literal → Type 0) (l : Literal) → l.kind ≤ 1 → P (logic.is_true l.first) → P (logic.is_false l.first) → P (meaning l)
atom_meaning P l h yes' no' = ⊎_elim
    (λ (is : l.kind ≡ 0). subst P (sym (cond-true _ _ _ (eq-eqb l.kind 0 is))) yes')
    (λ other. subst P (sym (cond-false _ _ _ (ne_eqb l.kind 0 other) ∙ cond-true _ _ _ (eq-eqb l.kind 1 (omega arith)))) no')
    (cases_eq l.kind 0)

pub choice_height : (l : Literal) → 1 < l.kind → height (meaning l) ≡ 0
choice_height l h = ap height (cond-false _ _ _ (ne_eqb l.kind 0 (λ e. omega arith)) ∙ cond-false _ _ _ (ne_eqb l.kind 1 (λ e. omega arith))) ∙ go (eqb l.kind 2)
  where
    go : (b : Bool) → height (cond b (logic.chosen (l.first - 1) l.second) (logic.not_chosen (l.first - 1) l.second)) ≡ 0
    go true = refl
    go false = refl

-- what is marked from the start is just what the goal needs
marks_are : (rules : List logic.Rule) (goal : ℕ) (marks : List Bool) → logic.Layered rules → Marked rules goal (replicate 25 false) marks → (a : ℕ) → marked marks a ≡ needed rules goal a
marks_are rules goal marks k m = needed_only rules goal (marked marks) k (record {
  start = m.start;
  closed = λ r a i h u. m.closed k r a i h (unmarked 25 r.head) u;
  least = λ other s c a h. m.least other s c (λ b t. absurd (both_ways _ (unmarked 25 b) t)) a h;
})

-- the rules may stand in a list of their own
pub model_marks : (m : Model) (rs : List Rule) (goal : ℕ) (marks : List Bool) → rs ≡ rules m → Marked (map held_rule rs) goal (replicate 25 false) marks → (a : ℕ) → marked marks a ≡ needed (held_rules m) goal a
model_marks m rs goal marks same done = marks_are (held_rules m) goal marks (held_layered m) (subst (λ (qs : List Rule). Marked (map held_rule qs) goal (replicate 25 false) marks) same done)

-- so what is worked for the marks is what the goal asks for
module _ (os : Options) (rules : List logic.Rule) (l : Literal) (h : l.kind ≤ 1) (marks : List Bool) (same : (a : ℕ) → marked marks a ≡ needed rules l.first a) where
  alike : (r : Result Table Refusal) → WorkedUp r os rules (marked marks) (suc l.first) → WorkedUp r os rules (needed rules l.first) (suc l.first)
  alike (Ok t) w = sym (table_alike 64 os rules (marked marks) (needed rules l.first) (suc l.first) (λ a _. same a)) ∙ w
  alike (Err f) (none, at) = (
    sym (table_alike 64 os rules (marked marks) (needed rules l.first) (suc l.first) (λ a _. same a)) ∙ none,
    at ∙ ap TooManyRows (wide_alike os rules (marked marks) (needed rules l.first) (suc l.first) same),
  )

  pub goal_worked : (r : Result Table Refusal) → WorkedUp r os rules (marked marks) (suc l.first) → WorkedUp r os rules (wanted rules (meaning l)) (height (meaning l))
  goal_worked r w = atom_meaning (λ g. WorkedUp r os rules (wanted rules g) (height g)) l h (alike r w) (alike r w)

-- the lists of a goal are the same in the lists of all atoms as in those that it depends on
pub goal_lists : (os : Options) (ts : List Lists) (g : logic.Literal) → lists_of os ts g ≡ lists_of os (take (height g) ts) g
goal_lists os ts (logic.is_true a) = sym (get_or-take (suc a) ts a nothing (omega arith))
goal_lists os ts (logic.is_false a) = ap exchanged (sym (get_or-take (suc a) ts a nothing (omega arith)))
goal_lists os ts (logic.chosen place n) = refl
goal_lists os ts (logic.not_chosen place n) = refl

-- nothing is worked for a choice
pub choice_worked : (os : Options) (rules : List logic.Rule) (l : Literal) → 1 < l.kind → (ts : List Lists) → table 64 os rules (wanted rules (meaning l)) (height (meaning l)) ≡ Some (take (height (meaning l)) ts)
unfolding table
choice_worked os rules l h ts = subst (λ n. table 64 os rules (wanted rules (meaning l)) n ≡ Some (take n ts)) (sym (choice_height l h)) refl
