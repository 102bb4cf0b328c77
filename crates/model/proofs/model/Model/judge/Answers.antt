use Rattle.std.proofs.Common.{◌≡◌, ℕ, ◌+◌, List, [], ◌∷◌, Ok, Option, refl, ap, ◌∙◌, rules}
use Rattle.std.specs.List.{enumerate_from, fold}
use Rattle.std.proofs.lemmas.Iterator.{YieldsList-from_slice}
use Rattle.std.proofs.lemmas.Iterator.Consumers.{YieldsList-from_enumerate, fold_from_yields_List}
use Rattle.model.specs.declared.literal.Literal.{Literal}
use Rattle.model.specs.declared.refusal.Refusal.{Refusal}
use Rattle.model.specs.Judging.{judge_literal, judge_from}
use Rattle.model.specs.Models.{alternatives, sizes, judged}
use Rattle.model.specs.Refusals.{smaller}
use Rattle.model.proofs.model.Model.judge.Goals as goal

-- one literal more, with its place counted from 0
abbrev judged_more : List ℕ → ℕ → Option Refusal → ℕ × Literal → Option Refusal
judged_more s head found p = smaller found (judge_literal s head (p.0 + 1) p.1)

folded : (s : List ℕ) (head n : ℕ) (found : Option Refusal) (body : List Literal) → fold (judged_more s head) found (enumerate_from n body) ≡ judge_from found s head (n + 1) body
folded s head n found [] = refl
folded s head n found (l ∷ ls) = folded s head (n + 1) (smaller found (judge_literal s head (n + 1) l)) ls

pub returns : goal.returns
returns c =
    let s = sizes (alternatives c.args.self.now) in
    let body = c.args.body.now in
    let found = fold_from_yields_List _ (judged_more s c.args.head) c.smaller-first.result c.fold-found.result c.fold-found.ensures.ran (YieldsList-from_enumerate (YieldsList-from_slice body cc) cc) (λ a x b q k. search rules) in
    c.answer.ensures ∙ ap (λ o. judged o (Ok tt)) (found ∙ folded s c.args.head 0 c.smaller-first.result body ∙ ap (λ o. judge_from o s c.args.head 1 body) (search rules))
