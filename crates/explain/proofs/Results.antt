-- What result lists hold.
use Rattle.std.proofs.Common.{◌≡◌, ℕ, zero, suc, ◌<◌, ◌≤◌, Bool, true, false, ◌&&◌, leb, List, ◌∷◌, ◌++◌, map, length, take, drop, replicate, IfOk, Some, None, Ok, Err, Option, Result, sym, refl, ap, ◌∙◌, arith}
use Rattle.std.proofs.lemmas.List.{map-append, length-map, drop-map, drop-replicate, take_at}
use Rattle.std.proofs.lemmas.Bool.{and_parts, leb-true}
use Rattle.std.proofs.lemmas.Bool.Decides.{nat_tests}
use Rattle.rows.specs.declared.row.Row.{Row}
use Rattle.logic.specs.Atoms.{Lists, lists_of, table}
use Rattle.logic.specs.Options.{Options}
use Rattle.logic.specs.Rules as logic_rules
use Rattle.logic.specs.Rules.{Rule}
use Rattle.logic.specs.Options as logic
use Rattle.model.specs.declared.literal.Literal.{Literal}
use Rattle.model.specs.declared.model.Model.{Model}
use Rattle.model.specs.declared.refusal.Refusal.{Refusal}
use Rattle.model.specs.declared.suppositions.Suppositions.{Suppositions}
use Rattle.model.specs.Journal.{Journal, Agrees}
use Rattle.model.specs.Judging.{judge_goal, judge_space, judge_suppositions, judge_question}
use Rattle.model.specs.Meaning.{meaning, held_rules}
use Rattle.model.specs.Models.{alternatives, sizes, judged}
use Rattle.model.specs.Refusals.{smaller}
use Rattle.model.proofs.States.{smaller_none}
use Rattle.explain.specs.declared.lists.Lengths.{Lengths}
use Rattle.explain.specs.Explaining.{over, padded, counts, rows_of, wanted, height, told_of, worked_for, enough, explaining, ExplainedIn}
use Rattle.explain.specs.Lists.{as_lists}
use Rattle.explain.specs.Options.{options}
use Rattle.explain.proofs.Explains.{answers_explain}
use Rattle.explain.proofs.Goals.{goal_lists}

map_replicate : {X Y : Type 0} (f : X → Y) (n : ℕ) (x : X) → map f (replicate n x) ≡ replicate n (f x)
map_replicate f zero x = refl
map_replicate f (suc n) x = ap (λ l. f x ∷ l) (map_replicate f n x)

-- a list copied to the front of a slice
pub copied_over : (front list before rest : List Row) (rows : List logic.Row) → front ≡ list → as_lists list ≡ rows → rest ≡ drop (length list) before → as_lists (front ++ rest) ≡ over rows (as_lists before)
copied_over front list before rest rows same is past =
    map-append (λ (r : Row). r.choices) front rest ∙ ap (λ l. l ++ as_lists rest) (ap as_lists same ∙ is)
    ∙ ap (λ l. rows ++ l) (ap as_lists past ∙ sym (drop-map (λ (r : Row). r.choices) (length list) before) ∙ ap (λ n. drop n (as_lists before)) (sym (length-map list (λ (r : Row). r.choices)) ∙ ap length is))

-- a list that was cleared, and what stands in it then
pub cleared : (n : ℕ) (row : Row) (items : List Row) → row.choices ≡ replicate 16 0 → items ≡ replicate n row → as_lists items ≡ replicate n (replicate 16 0)
cleared n row items zeros is = ap as_lists is ∙ map_replicate (λ (r : Row). r.choices) n row ∙ ap (replicate n) zeros

pub over_cleared : (n : ℕ) (rows before : List logic.Row) → before ≡ replicate n (replicate 16 0) → over rows before ≡ padded n rows
over_cleared n rows before is = ap (over rows) is ∙ ap (λ l. rows ++ l) (drop-replicate (length rows) n (replicate 16 0))

-- what is worked for a goal, where the lists of the atoms that it depends on are the first of ts
pub answered : (os : Options) (rules : List Rule) (goal : logic_rules.Literal) (ts : List Lists) (e : Lists) → table 64 os rules (wanted rules goal) (height goal) ≡ Some (take (height goal) ts) → e ≡ lists_of os ts goal → worked_for os rules goal ≡ Ok e
answered os rules goal ts e p q = ap (told_of os rules goal) p ∙ ap Ok (sym (q ∙ goal_lists os ts goal))

-- what judging a question answers
abbrev pub passed : Option Refusal → Result (Unit {0}) Refusal
passed o = judged o (Ok tt)

-- a question that is refused before it is worked, and one that is not
module _ (m : Model) (s : Suppositions) (goal : Literal) (b : Bool) where
  abbrev first : Option Refusal
  first = judge_question (sizes (alternatives m)) s.choices goal b

  none_first : ◌≡◌ {A = Result (Unit {0}) Refusal} (Ok tt) (passed first) → first ≡ None
  none_first h = go first h
    where
      go : (o : Option Refusal) → ◌≡◌ {A = Result (Unit {0}) Refusal} (Ok tt) (passed o) → o ≡ None
      go (Some g) q = cc
      go None q = refl

  pub refused_first : (f : Refusal) → ◌≡◌ {A = Result (Unit {0}) Refusal} (Err f) (passed first) → explaining m s goal b ≡ Err f
  unfolding explaining
  refused_first f h = go first h
    where
      go : (o : Option Refusal) → ◌≡◌ {A = Result (Unit {0}) Refusal} (Err f) (passed o) → judged o (worked_for (options m s) (held_rules m) (meaning goal)) ≡ Err f
      go (Some g) k = cc
      go None k = cc

  pub worked_then : ◌≡◌ {A = Result (Unit {0}) Refusal} (Ok tt) (passed first) → explaining m s goal b ≡ worked_for (options m s) (held_rules m) (meaning goal)
  unfolding explaining
  worked_then h = ap (λ o. judged o (worked_for (options m s) (held_rules m) (meaning goal))) (none_first h)

  pub goal_atom : ◌≡◌ {A = Result (Unit {0}) Refusal} (Ok tt) (passed first) → goal.kind ≤ 1 → goal.first < 25
  goal_atom h k =
      let none = none_first h in
      let free : judge_goal (sizes (alternatives m)) goal ≡ None = (smaller_none (judge_goal (sizes (alternatives m)) goal) (smaller (judge_space b) (judge_suppositions (sizes (alternatives m)) s.choices)) none).0 in
      grind (arith, nat_tests)

  pub enough_space : (own negated workspace : ℕ) → b ≡ enough own negated workspace → ◌≡◌ {A = Result (Unit {0}) Refusal} (Ok tt) (passed first) → (64 ≤ own) × (64 ≤ negated) × (4096 ≤ workspace)
  enough_space own negated workspace is h =
      let none = none_first h in
      let rest = (smaller_none (judge_goal (sizes (alternatives m)) goal) (smaller (judge_space b) (judge_suppositions (sizes (alternatives m)) s.choices)) none).1 in
      let space : judge_space b ≡ None = (smaller_none (judge_space b) (judge_suppositions (sizes (alternatives m)) s.choices) rest).0 in
      let yes' : (leb 64 own && (leb 64 negated && leb 4096 workspace)) ≡ true = sym is ∙ spacious b space in
      let both = and_parts (leb 64 own) (leb 64 negated && leb 4096 workspace) yes' in
      let last = and_parts (leb 64 negated) (leb 4096 workspace) both.1 in
      (leb-true 64 own both.0, leb-true 64 negated last.0, leb-true 4096 workspace last.1)
    where
      spacious : (b : Bool) → judge_space b ≡ None → b ≡ true
      spacious true q = refl
      spacious false q = cc

  -- what an accepted answer shows explains the goal
  pub explained_in : (j : Journal) (r : Result Lengths Refusal) (own negated : List logic.Row) (k l : ℕ) → Agrees j m s → r ≡ counts (explaining m s goal b)
      → own ≡ padded k (rows_of false (explaining m s goal b)) → negated ≡ padded l (rows_of true (explaining m s goal b))
      → IfOk r (λ n. ExplainedIn j goal (take n.own own) (take n.negated negated))
  explained_in j r own negated k l g p q u = go (explaining m s goal b) refl p q u
    where
      go : (a : Result Lists Refusal) → explaining m s goal b ≡ a → r ≡ counts a → own ≡ padded k (rows_of false a) → negated ≡ padded l (rows_of true a)
          → IfOk r (λ n. ExplainedIn j goal (take n.own own) (take n.negated negated))
      go (Ok e) is p q u =
          rw p (rw (ap (take (length e.own)) q ∙ take_at e.own _ (length e.own) refl, ap (take (length e.negated)) u ∙ take_at e.negated _ (length e.negated) refl) (answers_explain j m s goal b e g is))
      go (Err f) is p q u = rw p tt
