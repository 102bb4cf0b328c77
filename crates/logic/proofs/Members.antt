-- What is among a list that is joined, mapped or filtered.
use Rattle.std.proofs.Common.{◌≡◌, Bool, true, ◌⊎◌, List, [], ◌∷◌, ◌++◌, map, filter, sym, refl, ap, ◌∙◌, inl, inr, ⊎_elim}
use Rattle.std.proofs.lemmas.Bool.{both_ways, cond_both}
use Rattle.rows.specs.Minimal.{Among}
use Rattle.rows.proofs.Members.{at_cond}

module _ {A : Type 0} where
  pub among_right : (xs ys : List A) (e : A) → Among ys e → Among (xs ++ ys) e
  among_right [] ys e h = h
  among_right (x ∷ xs) ys e h = inr (among_right xs ys e h)

  pub among_append : (xs ys : List A) (e : A) → Among (xs ++ ys) e → Among xs e ⊎ Among ys e
  among_append [] ys e h = inr h
  among_append (x ∷ xs) ys e (inl q) = inl (inl q)
  among_append (x ∷ xs) ys e (inr h) = ⊎_elim (λ i. inl (inr i)) inr (among_append xs ys e h)

  -- a filter
  pub among_kept : (p : A → Bool) (xs : List A) (e : A) → Among xs e → p e ≡ true → Among (filter p xs) e
  among_kept p [] e h t = h
  among_kept p (x ∷ xs) e h t =
      cond_both (p x) (x ∷ filter p xs) (filter p xs) (λ l. Among l e)
      (λ _. ⊎_elim inl (λ i. inr (among_kept p xs e i t)) h)
      (λ q. ⊎_elim (λ i. absurd (both_ways (p x) q (ap p i ∙ t))) (λ i. among_kept p xs e i t) h)

  pub kept_among : (p : A → Bool) (xs : List A) (e : A) → Among (filter p xs) e → Among xs e × (p e ≡ true)
  kept_among p [] e h = absurd h
  kept_among p (x ∷ xs) e h = ⊎_elim
      (λ w. ⊎_elim (λ i. (inl i, ap p (sym i) ∙ w.0)) (λ i. let r = kept_among p xs e i in (inr r.0, r.1)) w.1)
      (λ w. let r = kept_among p xs e w.1 in (inr r.0, r.1))
      (at_cond (p x) (x ∷ filter p xs) (filter p xs) (λ l. Among l e) h)

module _ {A B : Type 0} (f : A → B) where
  pub among_map : (xs : List A) (x : A) → Among xs x → Among (map f xs) (f x)
  among_map [] x h = absurd h
  among_map (a ∷ xs) x (inl q) = inl (ap f q)
  among_map (a ∷ xs) x (inr h) = inr (among_map xs x h)

  pub map_among : (xs : List A) (y : B) → Among (map f xs) y → (x : A) × Among xs x × (f x ≡ y)
  map_among [] y h = absurd h
  map_among (a ∷ xs) y (inl q) = (a, inl refl, q)
  map_among (a ∷ xs) y (inr h) = let r = map_among xs y h in (r.0, inr r.1, r.2)
