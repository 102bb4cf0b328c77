-- What a model takes, when more is declared.
use Rattle.std.proofs.Common.{◌≡◌, ℕ, ◌-◌, ◌<◌, true, not, ◌&&◌, List, [], ◌∷◌, ◌++◌, length, is_some, Some, None, Option, refl, ap, arith}
use Rattle.std.proofs.lemmas.List.{get_or_append_left, length-append}
use Rattle.std.proofs.lemmas.Bool.{and_parts, and_from}
use Rattle.std.proofs.lemmas.Bool.Decides.{nat_tests}
use Rattle.model.specs.declared.literal.Literal.{Literal}
use Rattle.model.specs.declared.refusal.Refusal.{Refusal}
use Rattle.model.specs.declared.rule.Rule.{Rule}
use Rattle.model.specs.Holding.{taken, sound_rule, sound_rules}
use Rattle.model.specs.Judging.{is_atom, is_declared, judge_literal}
use Rattle.model.specs.Rules.{literals, canonical}

-- all that is declared by some sizes is declared by others
abbrev pub Wider : List ℕ → List ℕ → Type 0
Wider sizes sizes' = (a c : ℕ) → is_declared sizes a c ≡ true → is_declared sizes' a c ≡ true

pub one_wider : (sizes : List ℕ) (k : ℕ) → Wider sizes (sizes ++ (k ∷ []))
one_wider sizes k a c h =
    let inside : a - 1 < length sizes = grind (arith, nat_tests) in
    let same = get_or_append_left sizes (k ∷ []) 0 (a - 1) inside in
    let longer = length-append sizes (k ∷ []) in
    grind (arith, nat_tests)

module _ (sizes sizes' : List ℕ) (wider : Wider sizes sizes') where
  pub judge_wider : (head at : ℕ) (l : Literal) → judge_literal sizes head at l ≡ None → judge_literal sizes' head at l ≡ None
  judge_wider head at l h = let w = wider l.first l.second in grind (arith, nat_tests)

  free_wider : (head : ℕ) (l : Literal) → not (is_some (judge_literal sizes head 0 l)) ≡ true → not (is_some (judge_literal sizes' head 0 l)) ≡ true
  free_wider head l h = go (judge_literal sizes head 0 l) refl h
    where
      go : (o : Option Refusal) → judge_literal sizes head 0 l ≡ o → not (is_some o) ≡ true → not (is_some (judge_literal sizes' head 0 l)) ≡ true
      go None is k = ap (λ r. not (is_some r)) (judge_wider head 0 l is)
      go (Some f) is k = let z : ◌≡◌ {A = ℕ} 0 1 = cc in absurd (omega arith)

  taken_wider : (head : ℕ) (ls : List Literal) → taken sizes head ls ≡ true → taken sizes' head ls ≡ true
  taken_wider head [] h = refl
  taken_wider head (l ∷ ls) h = let both = and_parts _ _ h in and_from _ _ (free_wider head l both.0) (taken_wider head ls both.1)

  pub sound_wider : (rs : List Rule) → sound_rules sizes rs ≡ true → sound_rules sizes' rs ≡ true
  sound_wider [] h = refl
  sound_wider (r ∷ rs) h =
      let both = and_parts (sound_rule sizes r) (sound_rules sizes rs) h in
      let a = and_parts (canonical r) (is_atom r.head && taken sizes r.head (literals r)) both.0 in
      let b = and_parts (is_atom r.head) (taken sizes r.head (literals r)) a.1 in
      and_from _ _ (and_from _ _ a.0 (and_from _ _ b.0 (taken_wider r.head (literals r) b.1))) (sound_wider rs both.1)
