-- How many are left of those that are held.
use Rattle.std.proofs.Common.{◌≡◌, ℕ, zero, suc, ◌<◌, ◌≤◌, Bool, true, not, List, [], ◌∷◌, length, get_or, arith}
use Rattle.std.proofs.lemmas.Bool.{cond_both, not_from_true}
use Rattle.rows.specs.Keeping.{spared}

module _ {V : Type 0} (below : V → V → Bool) (x : V) where
  pub spared_most : (ys : List V) → length (spared below x ys) ≤ length ys
  spared_most [] = omega arith
  spared_most (y ∷ ys) = cond_both (not (below x y)) (y ∷ spared below x ys) (spared below x ys) (λ l. length l ≤ length (y ∷ ys)) (λ _. omega (arith, spared_most ys)) (λ _. omega (arith, spared_most ys))

  -- where one is above x, fewer are left
  pub spared_fewer : (ys : List V) (i : ℕ) (d : V) → i < length ys → below x (get_or ys i d) ≡ true → length (spared below x ys) < length ys
  spared_fewer [] i d h b = absurd (omega arith)
  spared_fewer (y ∷ ys) zero d h b = rw (not_from_true _ b) (omega (arith, spared_most ys))
  spared_fewer (y ∷ ys) (suc i) d h b =
      let t = spared_fewer ys i d (omega arith) b in
      cond_both (not (below x y)) (y ∷ spared below x ys) (spared below x ys) (λ l. length l < length (y ∷ ys)) (λ _. omega arith) (λ _. omega arith)
