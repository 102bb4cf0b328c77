-- The two lists of one atom.
use Rattle.std.proofs.Common.{◌≡◌, ℕ, List, Some, None, Ok, Err, Option, Result, MatchResult, IsOkAnd, refl, ap, ◌∙◌}
use Rattle.std.specs.Option.{option_map, option_zip}
use Rattle.rows.specs.Keeping.{and_then}
use Rattle.logic.specs.Atoms.{Lists, negated_list, worked}
use Rattle.logic.specs.Duals.{duals}
use Rattle.logic.specs.Options as logic
use Rattle.logic.specs.Options.{Options}
use Rattle.logic.specs.Rules.{Rule}
use Rattle.logic.proofs.Bases.{some_same}
use Rattle.model.specs.declared.refusal.Refusal.{Refusal}
use Rattle.explain.specs.declared.lists.Lists as code
use Rattle.explain.specs.Lists.{lists_in}
use Rattle.explain.specs.Tables.{told_lists}

-- an answer of which the refusal was put otherwise
pub told_kept : {E : Type 0} (r : Result code.Lists E) (l : code.Lists) → MatchResult r (λ x. ◌≡◌ {A = Result code.Lists Refusal} (Ok l) (Ok x)) (λ e. ⊥) → Some (lists_in l) ≡ told_lists r
told_kept (Ok x) l h = ap told_lists h
told_kept (Err e) l h = absurd h

pub shown_kept : {E : Type 0} (r : Result code.Lists E) (l : code.Lists) (e : Lists) → MatchResult r (λ x. ◌≡◌ {A = Result code.Lists Refusal} (Ok l) (Ok x)) (λ e. ⊥) → IsOkAnd r (λ x. lists_in x ≡ e) → lists_in l ≡ e
shown_kept (Ok x) l e h is = some_same (ap told_lists h) ∙ is
shown_kept (Err f) l e h is = absurd h

pub told_refused : {E : Type 0} (r : Result code.Lists E) (f g : Refusal) (P : E → Type 0) → ((e : E) → P e → f ≡ g) → MatchResult r (λ x. ◌≡◌ {A = Result code.Lists Refusal} (Err f) (Ok x)) P → (None ≡ told_lists r) × (f ≡ g)
told_refused (Ok x) f g P is h = cc
told_refused (Err e) f g P is h = (refl, is e h)

-- both lists, or neither
module _ (limit : ℕ) (os : Options) (rules : List Rule) (t : List Lists) (a : ℕ) where
  both : (n o : Option (List logic.Row)) → n ≡ negated_list limit os rules t a → o ≡ and_then n (duals limit os)
      → option_map (λ p. record { own = p.0; negated = p.1 }) (option_zip o n) ≡ worked limit os rules t a
  unfolding worked
  both n o p q =
      ap (λ x. option_map (λ p. record { own = p.0; negated = p.1 }) (option_zip o x)) p
      ∙ ap (λ x. option_map (λ p. record { own = p.0; negated = p.1 }) (option_zip x (negated_list limit os rules t a))) (q ∙ ap (λ x. and_then x (duals limit os)) p)

  pub worked_some : (own negated : List logic.Row) → Some negated ≡ negated_list limit os rules t a → Some own ≡ duals limit os negated → Some (record { own = own; negated = negated }) ≡ worked limit os rules t a
  worked_some own negated p q = both (Some negated) (Some own) p q

  pub negated_wide : None ≡ negated_list limit os rules t a → None ≡ worked limit os rules t a
  negated_wide p = both None None p refl

  pub own_wide : (negated : List logic.Row) → Some negated ≡ negated_list limit os rules t a → None ≡ duals limit os negated → None ≡ worked limit os rules t a
  own_wide negated p q = both (Some negated) None p q
