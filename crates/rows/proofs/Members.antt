-- What is among a list, and what covers an element.
use Rattle.std.proofs.Common.{◌≡◌, Bool, true, false, cond, not, ◌⊎◌, List, [], ◌∷◌, ◌++◌, sym, refl, subst, inl, inr, ⊎_elim}
use Rattle.std.specs.List.{AllByRecursion}
use Rattle.std.proofs.lemmas.Bool.{true≢false, both_ways, not-true, not-false, cond_both, or_cases, or_left, or_right, or_parts}
use Rattle.rows.specs.Keeping.{covered, spared, placed}
use Rattle.rows.specs.Minimal.{Among, Ascending}

-- which way a `cond` went
pub at_cond : {X : Type 0} (b : Bool) (x y : X) (P : X → Type 0) → P (cond b x y) → ((b ≡ true) × P x) ⊎ ((b ≡ false) × P y)
at_cond true x y P h = inl (refl, h)
at_cond false x y P h = inr (refl, h)

-- two tests that are true together
pub same_tests : (a b : Bool) → (a ≡ true → b ≡ true) → (b ≡ true → a ≡ true) → a ≡ b
same_tests true b f g = sym (f refl)
same_tests false true f g = g refl
same_tests false false f g = refl

-- what holds of all holds of each member, and the other way round
pub all_among : {V : Type 0} (P : V → Type 0) (xs : List V) → AllByRecursion P xs → (e : V) → Among xs e → P e
all_among P [] h e k = absurd k
all_among P (x ∷ xs) h e k = ⊎_elim (λ q. subst P q h.0) (all_among P xs h.1 e) k

pub all_from_among : {V : Type 0} (P : V → Type 0) (xs : List V) → ((e : V) → Among xs e → P e) → AllByRecursion P xs
all_from_among P [] h = tt
all_from_among P (x ∷ xs) h = (h x (inl refl), all_from_among P xs (λ e k. h e (inr k)))

pub among_left : {V : Type 0} (xs ys : List V) (e : V) → Among xs e → Among (xs ++ ys) e
among_left [] ys e h = absurd h
among_left (x ∷ xs) ys e h = ⊎_elim inl (λ k. inr (among_left xs ys e k)) h

pub among_last : {V : Type 0} (xs : List V) (x : V) → Among (xs ++ (x ∷ [])) x
among_last [] x = inl refl
among_last (y ∷ ys) x = inr (among_last ys x)

pub among_push : {V : Type 0} (xs : List V) (x e : V) → Among (xs ++ (x ∷ [])) e → Among xs e ⊎ (x ≡ e)
among_push [] x e h = ⊎_elim inr absurd h
among_push (y ∷ ys) x e h = ⊎_elim (λ k. inl (inl k)) (λ k. ⊎_elim (λ l. inl (inr l)) inr (among_push ys x e k)) h

-- an element that some of ys cover, or none
module _ {V : Type 0} (below : V → V → Bool) (x : V) where
  pub covered_some : (ys : List V) → covered below ys x ≡ true → (y : V) × Among ys y × (below y x ≡ true)
  covered_some [] h = absurd (true≢false (sym h))
  covered_some (y ∷ ys) h = ⊎_elim (λ k. (y, inl refl, k)) (λ k. let r = covered_some ys k in (r.0, inr r.1, r.2)) (or_cases _ _ h)

  pub covered_by : (ys : List V) (y : V) → Among ys y → below y x ≡ true → covered below ys x ≡ true
  covered_by [] y k b = absurd k
  covered_by (z ∷ ys) y k b = ⊎_elim (λ e. or_left _ _ (subst (λ (v : V). below v x ≡ true) (sym e) b)) (λ l. or_right _ _ (covered_by ys y l b)) k

  pub covered_none : (ys : List V) → covered below ys x ≡ false → (y : V) → Among ys y → below y x ≡ false
  covered_none [] h y k = absurd k
  covered_none (z ∷ ys) h y k = ⊎_elim (λ e. subst (λ (v : V). below v x ≡ false) e (or_parts _ _ h).0) (covered_none ys (or_parts _ _ h).1 y) k

  -- the members of what is not above x
  pub spared_from : (ys : List V) (e : V) → Among (spared below x ys) e → Among ys e × (below x e ≡ false)
  spared_from [] e h = absurd h
  spared_from (y ∷ ys) e h =
      ⊎_elim
      (λ w. ⊎_elim (λ k. (inl k, subst (λ (v : V). below x v ≡ false) k (not-true _ w.0))) (λ k. let r = spared_from ys e k in (inr r.0, r.1)) w.1)
      (λ w. let r = spared_from ys e w.1 in (inr r.0, r.1))
      (at_cond (not (below x y)) (y ∷ spared below x ys) (spared below x ys) (λ l. Among l e) h)

  pub spared_to : (ys : List V) (e : V) → Among ys e → below x e ≡ false → Among (spared below x ys) e
  spared_to [] e h b = absurd h
  spared_to (y ∷ ys) e h b =
      cond_both (not (below x y)) (y ∷ spared below x ys) (spared below x ys) (λ l. Among l e)
      (λ _. ⊎_elim inl (λ k. inr (spared_to ys e k b)) h)
      (λ n. ⊎_elim (λ k. absurd (both_ways _ b (subst (λ (v : V). below x v ≡ true) k (not-false _ n)))) (λ k. spared_to ys e k b) h)

  pub spared_ascends : (before : V → V → Bool) (ys : List V) → Ascending before ys → Ascending before (spared below x ys)
  spared_ascends before [] h = tt
  spared_ascends before (y ∷ ys) h =
      cond_both (not (below x y)) (y ∷ spared below x ys) (spared below x ys) (Ascending before)
      (λ _. (λ e k. h.0 e (spared_from ys e k).0, spared_ascends before ys h.1))
      (λ _. spared_ascends before ys h.1)

-- the members of what x was placed in
module _ {V : Type 0} (before : V → V → Bool) (x : V) where
  pub placed_from : (ys : List V) (e : V) → Among (placed before x ys) e → (x ≡ e) ⊎ Among ys e
  placed_from [] e h = h
  placed_from (y ∷ ys) e h =
      ⊎_elim (λ w. w.1) (λ w. ⊎_elim (λ k. inr (inl k)) (λ k. ⊎_elim inl (λ l. inr (inr l)) (placed_from ys e k)) w.1)
      (at_cond (before x y) (x ∷ y ∷ ys) (y ∷ placed before x ys) (λ l. Among l e) h)

  pub placed_to : (ys : List V) (e : V) → (x ≡ e) ⊎ Among ys e → Among (placed before x ys) e
  placed_to [] e h = h
  placed_to (y ∷ ys) e h =
      cond_both (before x y) (x ∷ y ∷ ys) (y ∷ placed before x ys) (λ l. Among l e)
      (λ _. h)
      (λ _. ⊎_elim (λ k. inr (placed_to ys e (inl k))) (⊎_elim inl (λ k. inr (placed_to ys e (inr k)))) h)
