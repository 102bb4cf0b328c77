use Rattle.std.proofs.Common.{◌≡◌, ℕ, suc, subst}
use Rattle.logic.specs.Needed.{needed}
use Rattle.model.specs.Meaning.{held_rules}
use Rattle.explain.specs.Explaining.{WorkedUp}
use Rattle.explain.specs.Marks.{marked}
use Rattle.explain.specs.Options.{options_of}
use Rattle.explain.proofs.Goals.{choice_worked, model_marks, goal_worked}
use Rattle.explain.proofs.question.work_for.Goals as goal

pub returns-in_default : goal.returns-in_default
returns-in_default c = choice_worked (options_of c.args.board) (held_rules c.args.board.model.now) c.args.goal.now c.in_default.ensures _

pub returns : goal.returns
returns c =
    let m = c.args.board.model.now in
    let os = options_of c.args.board in
    let rules = held_rules m in
    let marks = c.mark.new.marks in
    let (kind, is) = c.in-Some.ensures in
    let same = model_marks m c.rules.result.now c.in-Some.atom marks c.rules.ensures c.mark.ensures in
    let Marks-needed : ℕ → Type 0 = λ n. (a : ℕ) → marked marks a ≡ needed rules n a in
    let Worked-below : ℕ → Type 0 = λ n. WorkedUp c.work_up.result os rules (marked marks) (suc n) in
    goal_worked os rules c.args.goal.now kind marks (subst Marks-needed is same) c.work_up.result (subst Worked-below is c.work_up.ensures)
