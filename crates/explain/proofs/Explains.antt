-- The lists that are answered are exactly the minimal explanations of the goal and of its negation.
use Rattle.std.proofs.Common.{◌≡◌, ℕ, ◌-◌, ◌≤◌, Bool, false, eqb, ltb, List, [], length, get_or, Some, None, Ok, Err, Option, Result, refl, subst, ap₂, arith}
use mathlib.Core.Path.{fun_ext}
use Rattle.std.proofs.lemmas.Bool.{cond_both}
use Rattle.std.proofs.lemmas.Bool.Decides.{nat_tests}
use Rattle.rows.specs.Minimal.{Among, Ascending}
use Rattle.logic.specs.Atoms.{Lists, lists_of, table}
use Rattle.logic.specs.Explanations.{Explained}
use Rattle.logic.specs.Minimals.{FullExplanation}
use Rattle.logic.specs.Options.{Row, Options, SoundOptions}
use Rattle.logic.specs.Rules.{Literal, is_true, is_false, chosen, not_chosen, Rule, Layered, true_in, truth}
use Rattle.logic.proofs.Chosen.{choice_explains}
use Rattle.logic.proofs.Tables.{goal_explains}
use Rattle.model.specs.declared.literal.Literal as code
use Rattle.model.specs.declared.model.Model.{Model}
use Rattle.model.specs.declared.refusal.Refusal.{Refusal}
use Rattle.model.specs.declared.suppositions.Suppositions.{Suppositions}
use Rattle.model.specs.Journal.{Journal, Agrees}
use Rattle.model.specs.Judging.{judge_goal, judge_space, judge_suppositions, judge_question}
use Rattle.model.specs.Meaning as journal
use Rattle.model.specs.Meaning.{options_below, meaning, held_rules, all_rules}
use Rattle.model.specs.Models.{alternatives, sizes, judged}
use Rattle.model.specs.Refusals.{smaller}
use Rattle.model.proofs.Meanings.{rules_layered, held_rules_alike}
use Rattle.model.proofs.States.{smaller_none}
use Rattle.explain.specs.Explaining.{wanted, height, told_of, worked_for, explaining, negation, AnswersExplain}
use Rattle.explain.specs.Options.{options}
use Rattle.explain.proofs.OptionLaws.{sound_options, ascending_there, several_there}

-- what an answer passed through
module _ {X : Type 0} where
  ok_same : {x y : X} → ◌≡◌ {A = Result X Refusal} (Ok x) (Ok y) → x ≡ y
  ok_same h = cc

  err_ok : {f : Refusal} {x : X} → ◌≡◌ {A = Result X Refusal} (Err f) (Ok x) → ⊥
  err_ok h = let z : ◌≡◌ {A = ℕ} 0 1 = cc in omega arith

  judged_ok : (o : Option Refusal) (rest : Result X Refusal) (x : X) → judged o rest ≡ Ok x → (o ≡ None) × (rest ≡ Ok x)
  judged_ok None rest x h = (refl, h)
  judged_ok (Some f) rest x h = absurd (err_ok h)

-- the two lists of a goal explain it and its negation
abbrev Good : Options → List Rule → Literal → Lists → Type 0
Good os rules goal e = Explained os rules goal e.own × Explained os rules (negation goal) e.negated

-- a choice that is asked for is one of the options of its place, where there are several
abbrev Offered : Options → ℕ → ℕ → Type 0
Offered os place n = Ascending ltb (get_or os place []) × (2 ≤ length (get_or os place []) → Among (get_or os place []) n)

abbrev Asked : Options → Literal → Type 0
Asked os (is_true a) = Unit {0}
Asked os (is_false a) = Unit {0}
Asked os (chosen place n) = Offered os place n
Asked os (not_chosen place n) = Offered os place n

module _ (os : Options) (rules : List Rule) (sound : SoundOptions os) (layered : Layered rules) where
  lists_good : (goal : Literal) (t : List Lists) → Asked os goal → table 64 os rules (wanted rules goal) (height goal) ≡ Some t → Good os rules goal (lists_of os t goal)
  lists_good (is_true a) t asked h = goal_explains 64 os rules a t sound layered h
  lists_good (is_false a) t asked h = let (own, negated) = goal_explains 64 os rules a t sound layered h in (negated, own)
  lists_good (chosen place n) t asked h = choice_explains os rules place n sound asked.0 asked.1
  lists_good (not_chosen place n) t asked h = let (own, negated) = choice_explains os rules place n sound asked.0 asked.1 in (negated, own)

  worked_good : (goal : Literal) (e : Lists) → Asked os goal → worked_for os rules goal ≡ Ok e → Good os rules goal e
  worked_good goal e asked h = go (table 64 os rules (wanted rules goal) (height goal)) refl h
    where
      go : (o : Option (List Lists)) → table 64 os rules (wanted rules goal) (height goal) ≡ o → told_of os rules goal o ≡ Ok e → Good os rules goal e
      go (Some t) is told = subst (Good os rules goal) (ok_same told) (lists_good goal t asked is)
      go None is told = absurd (err_ok told)

-- a goal that is not refused speaks of an atom, or of a declared choice
goal_asked : (ns supposed : List ℕ) (n : ℕ) (goal : code.Literal) → judge_goal ns goal ≡ None → Asked (options_below ns supposed n) (meaning goal)
goal_asked ns supposed n goal free =
    cond_both (eqb goal.kind 0) _ _ (Asked os) (λ _. tt) (λ not0.
    cond_both (eqb goal.kind 1) _ _ (Asked os) (λ _. tt) (λ not1.
    cond_both (eqb goal.kind 2) _ _ (Asked os) (λ _. offered not0 not1) (λ _. offered not0 not1)))
  where
    os : Options
    os = options_below ns supposed n

    offered : eqb goal.kind 0 ≡ false → eqb goal.kind 1 ≡ false → Offered os (goal.first - 1) goal.second
    offered not0 not1 =
        let low : 1 ≤ goal.second = grind (arith, nat_tests) in
        let high : goal.second ≤ get_or ns (goal.first - 1) 0 = grind (arith, nat_tests) in
        (ascending_there ns supposed n (goal.first - 1), several_there ns supposed n (goal.first - 1) goal.second low high)

-- a session has the worlds and the truths of each journal that it agrees with
module _ (j : Journal) (m : Model) (s : Suppositions) (g : Agrees j m s) where
  same_options : options m s ≡ journal.options j
  unfolding options
  same_options = ap₂ (λ (as' : List (List ℕ)) (supposed : List ℕ). options_below (sizes as') supposed 16) g.declared g.supposed

  same_truth : truth (held_rules m) ≡ truth (all_rules j)
  same_truth = fun_ext (λ w. fun_ext (held_rules_alike j m s g w))

  in_journal : (goal : Literal) (rows : List Row) → Explained (options m s) (held_rules m) goal rows → Explained (journal.options j) (all_rules j) goal rows
  in_journal goal rows x =
      subst (λ os. Explained os (all_rules j) goal rows) same_options
      (subst (λ (v : Row → ℕ → Bool). FullExplanation (options m s) (λ w. true_in w (v w) goal) rows) same_truth x)

  session_good : (goal : code.Literal) (enough : Bool) (e : Lists) → explaining m s goal enough ≡ Ok e → Good (options m s) (held_rules m) (meaning goal) e
  unfolding explaining options
  session_good goal enough e h =
      let ns : List ℕ = sizes (alternatives m) in
      let (free, answer) = judged_ok (judge_question ns s.choices goal enough) (worked_for (options m s) (held_rules m) (meaning goal)) e h in
      let (asked, rest) = smaller_none (judge_goal ns goal) (smaller (judge_space enough) (judge_suppositions ns s.choices)) free in
      worked_good (options m s) (held_rules m) (sound_options ns s.choices 16) (rules_layered j m s g).1 (meaning goal) e (goal_asked ns s.choices 16 goal asked) answer

pub answers_explain : AnswersExplain
answers_explain j m s goal enough e g h =
    let (own, negated) = session_good j m s g goal enough e h in
    record { affirmed = in_journal j m s g (meaning goal) e.own own; denied = in_journal j m s g (negation (meaning goal)) e.negated negated }
