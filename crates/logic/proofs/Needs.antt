-- The atoms that a goal needs.
use Rattle.std.proofs.Common.{◌≡◌, ℕ, zero, suc, ◌+◌, ◌≤◌, Bool, true, List, [], ◌∷◌, refl, ap, ◌∙◌, subst, inl, inr, ⊎_elim, arith}
use Rattle.std.proofs.lemmas.Bool.{false≢true, and_parts, and_from, or_cases, or_left, or_right, cases_eq, eqb-true, eq-eqb}
use Rattle.rows.specs.Minimal.{Among}
use Rattle.rows.proofs.Members.{same_tests}
use Rattle.logic.specs.Rules.{Literal, is_true, is_false, chosen, not_chosen, Rule, Uses, Layered}
use Rattle.logic.specs.Needed.{Closed, is_of, uses, used, reached, needed, NeededJust, NeededOnly}

-- the tests decide what they stand for
uses_true : (ls : List Literal) (a : ℕ) → uses ls a ≡ true → Uses ls a
unfolding uses
uses_true [] a h = absurd (false≢true h)
uses_true (l ∷ ls) a h = ⊎_elim (first l) (λ t. ⊎_elim (λ i. inl (inr i)) (λ i. inr (inr i)) (uses_true ls a t)) (or_cases _ _ h)
  where
    first : (l : Literal) → is_of a l ≡ true → Uses (l ∷ ls) a
    first (is_true b) t = inl (inl (ap is_true (eqb-true b a t)))
    first (is_false b) t = inr (inl (ap is_false (eqb-true b a t)))
    first (chosen place n) t = absurd (false≢true t)
    first (not_chosen place n) t = absurd (false≢true t)

member_uses : (ls : List Literal) (a : ℕ) (l : Literal) → Among ls l → is_of a l ≡ true → uses ls a ≡ true
unfolding uses
member_uses [] a l i t = absurd i
member_uses (m ∷ ls) a l (inl e) t = or_left _ _ (ap (is_of a) e ∙ t)
member_uses (m ∷ ls) a l (inr i) t = or_right _ _ (member_uses ls a l i t)

true_uses : (ls : List Literal) (a : ℕ) → Uses ls a → uses ls a ≡ true
true_uses ls a = ⊎_elim (λ i. member_uses ls a (is_true a) i (eq-eqb a a refl)) (λ i. member_uses ls a (is_false a) i (eq-eqb a a refl))

pub used_true : (rules : List Rule) (wanted : ℕ → Bool) (a : ℕ) → used rules wanted a ≡ true → (r : Rule) × Among rules r × (wanted r.head ≡ true) × Uses r.body a
unfolding used
used_true [] wanted a h = absurd (false≢true h)
used_true (r ∷ rs) wanted a h = ⊎_elim
    (λ t. let (p, q) = and_parts (wanted r.head) _ t in (r, inl refl, p, uses_true r.body a q))
    (λ t. let (s, i, p, q) = used_true rs wanted a t in (s, inr i, p, q))
    (or_cases _ _ h)

pub true_used : (rules : List Rule) (wanted : ℕ → Bool) (a : ℕ) (r : Rule) → Among rules r → wanted r.head ≡ true → Uses r.body a → used rules wanted a ≡ true
unfolding used
true_used [] wanted a r i p q = absurd i
true_used (s ∷ rs) wanted a r (inl e) p q = or_left _ _ (and_from _ _ (ap (λ (x : Rule). wanted x.head) e ∙ p) (ap (λ (x : Rule). uses x.body a) e ∙ true_uses r.body a q))
true_used (s ∷ rs) wanted a r (inr i) p q = or_right _ _ (true_used rs wanted a r i p q)

module _ (rules : List Rule) (goal : ℕ) where
  -- more steps reach no less
  further : (m n a : ℕ) → m ≤ n → reached rules goal m a ≡ true → reached rules goal n a ≡ true
  unfolding reached
  further m zero a le h = let e : m ≡ 0 = omega arith in subst (λ k. reached rules goal k a ≡ true) e h
  further m (suc n) a le h = ⊎_elim
      (λ e. subst (λ k. reached rules goal k a ≡ true) e h)
      (λ e. or_left _ _ (further m n a (omega arith) h))
      (cases_eq m (suc n))

  -- an atom is reached in as many steps as it is below the goal
  soon : Layered rules → (n a : ℕ) → reached rules goal n a ≡ true → (m : ℕ) × (m + a ≤ goal) × (reached rules goal m a ≡ true)
  unfolding reached
  soon k zero a h = (0, omega (arith, eqb-true goal a h), h)
  soon k (suc n) a h = ⊎_elim (soon k n a)
      (λ t.
      let (r, i, p, q) = used_true rules (reached rules goal n) a t in
      let (m, le, s) = soon k n r.head p in
      (suc m, omega (arith, k r a i q), or_right _ _ (true_used rules (reached rules goal m) a r i s q)))
      (or_cases _ _ h)

  reached_least : (other : ℕ → Bool) → other goal ≡ true → Closed rules other → (n a : ℕ) → reached rules goal n a ≡ true → other a ≡ true
  unfolding reached
  reached_least other g c zero a h = subst (λ b. other b ≡ true) (eqb-true goal a h) g
  reached_least other g c (suc n) a h = ⊎_elim (reached_least other g c n a)
      (λ t. let (r, i, p, q) = used_true rules (reached rules goal n) a t in c r a i (reached_least other g c n r.head p) q)
      (or_cases _ _ h)

  one_more : (m a : ℕ) (r : Rule) → Among rules r → reached rules goal m r.head ≡ true → Uses r.body a → reached rules goal (suc m) a ≡ true
  unfolding reached
  one_more m a r i h u = or_right _ _ (true_used rules (reached rules goal m) a r i h u)

  at_goal : reached rules goal zero goal ≡ true
  unfolding reached
  at_goal = eq-eqb goal goal refl

pub needed_just : NeededJust
unfolding needed
needed_just rules goal k = record {
  start = further rules goal 0 goal goal (omega arith) (at_goal rules goal);
  closed = λ r a i h u.
      let (m, le, s) = soon rules goal k goal r.head h in
      further rules goal (suc m) goal a (omega (arith, k r a i u)) (one_more rules goal m a r i s u);
  least = λ other g c a h. reached_least rules goal other g c goal a h;
}

pub needed_only : NeededOnly
needed_only rules goal wanted k j a =
    let n = needed_just rules goal k in
    same_tests (wanted a) (needed rules goal a) (j.least (needed rules goal) n.start n.closed a) (n.least wanted j.start j.closed a)
