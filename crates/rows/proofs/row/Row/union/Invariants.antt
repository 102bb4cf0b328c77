use Rattle.std.proofs.Common.{◌≡◌, ◌++◌, take, drop}
use Rattle.rows.specs.Rows.{union}
use Rattle.rows.proofs.row.Row.union.Given as goal

abbrev pub invariant-loop-place : goal.invariant-loop-place
invariant-loop-place l = l.choices ≡ union (take l.place l.self.choices) (take l.place l.other.choices) ++ drop l.place l.self.choices
