-- `==` tells exactly whether two values are the same.
use Rattle.std.specs.Prelude.{◌≡◌, Bool, Decides, refl}
use Rattle.std.proofs.Common.{sym, subst, rules}
use Rattle.std.proofs.lemmas.Slice.Eq.{slice_eq-Decides}
use Rattle.std.specs.Cmp.Lexicographic.{pointwise}
use Rattle.model.specs.declared.alternative.Alternative.{Alternative}
use Rattle.model.specs.declared.literal.Literal.{Literal}
use Rattle.model.specs.declared.model.Model.{Model}
use Rattle.model.specs.declared.rule.Rule.{Rule}
use Rattle.model.specs.declared.suppositions.Suppositions.{Suppositions}
use Rattle.model.specs.Equality.{equal_alternatives, equal_literals, equal_models, equal_rules, equal_suppositions}
use Rattle.model.specs.Same.{model_same}

pub literals_decided : (l m : Literal) → Decides (equal_literals l m) (l ≡ m)
literals_decided l m = search rules

pub alternatives_decided : (a b : Alternative) → Decides (equal_alternatives a b) (a ≡ b)
alternatives_decided a b = search rules

pub suppositions_decided : (s t : Suppositions) → Decides (equal_suppositions s t) (s ≡ t)
suppositions_decided s t = search rules

pub rules_decided : (r s : Rule) → Decides (equal_rules r s) (r ≡ s)
rules_decided r s =
    let body = slice_eq-Decides literals_decided r.body s.body (pointwise equal_literals r.body s.body) refl in
    search rules

pub models_decided : (m n : Model) → Decides (equal_models m n) (m ≡ n)
models_decided m n =
    let alternatives = slice_eq-Decides alternatives_decided m.alternatives n.alternatives (pointwise equal_alternatives m.alternatives n.alternatives) refl in
    let shelf = slice_eq-Decides rules_decided m.rules n.rules (pointwise equal_rules m.rules n.rules) refl in
    let same = model_same m n in
    search rules

-- so an answer that is the test's tells it too
pub told_by : {V : Type 0} (test : V → V → Bool) → ((x y : V) → Decides (test x y) (x ≡ y)) → (x y : V) (r : Bool) → r ≡ test x y → Decides r (x ≡ y)
told_by test decides x y r e = subst (λ b. Decides b (x ≡ y)) (sym e) (decides x y)
