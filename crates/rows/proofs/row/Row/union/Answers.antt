use Rattle.std.proofs.Common.{◌≡◌, ◌∙◌, rules}
use Rattle.rows.specs.Rows.{union}
use Rattle.rows.specs.RowLaws.{union_more_set, union_more_keep, union_all, union_says_both}
use Rattle.rows.proofs.row.Row.union.Goals as goal
use Rattle.rows.proofs.row.Row.union.Goals.{then-choices-place-eq0, else-choices-place-eq0}

pub loop-place-preserved : goal.loop-place-preserved
loop-place-preserved c =
    elim c.if-choices-place-eq0.branch [
      | then-choices-place-eq0 w ↦ w.choices-is ∙ union_more_set c.args.self.now.choices c.args.other.now.choices c.loop-place.choices c.loop-place.place c.loop-place.invariant (search rules) (search rules) w.if-choices-place-eq0.true
      | else-choices-place-eq0 w ↦ w.choices-is ∙ union_more_keep c.args.self.now.choices c.args.other.now.choices c.loop-place.choices c.loop-place.place c.loop-place.invariant (search rules) (search rules) w.if-choices-place-eq0.false
    ]

pub returns : goal.returns
returns c =
    let is : c.loop-place.choices ≡ union c.args.self.now.choices c.args.other.now.choices =
    union_all c.args.self.now.choices c.args.other.now.choices c.loop-place.choices c.loop-place.place c.loop-place.invariant (search rules) (search rules) in
    record { merged = is; both = λ h. rw is (union_says_both c.args.self.now.choices c.args.other.now.choices h) }
