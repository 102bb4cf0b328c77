-- The truth of the atoms.
use Rattle.std.proofs.Common.{◌≡◌, ℕ, zero, suc, ◌<◌, Bool, true, not, ◌&&◌, ◌||◌, eqb, ◌⊎◌, List, [], ◌∷◌, sym, refl, ap, ◌∙◌, subst, ap₂, inl, inr, ⊎_elim, arith}
use Rattle.std.proofs.lemmas.Bool.{false≢true, and_parts, and_from, or_cases, or_left, or_right, eqb-true, eq-eqb}
use Rattle.rows.specs.Minimal.{Among}
use Rattle.rows.proofs.Members.{same_tests}
use Rattle.logic.specs.Options.{Row}
use Rattle.logic.specs.Rules.{Literal, is_true, is_false, chosen, not_chosen, Rule, Uses, Layered, true_in, Derived, Stable, all_true, some_true, rules_for, derived, settled, truth, TruthStable, TruthOnly, TruthAlike}
use Rattle.logic.proofs.Members.{among_kept, kept_among}

-- the tests decide what they stand for
all_true_each : (w : Row) (v : ℕ → Bool) (ls : List Literal) → all_true w v ls ≡ true → (l : Literal) → Among ls l → true_in w v l ≡ true
unfolding all_true
all_true_each w v [] h l i = absurd i
all_true_each w v (m ∷ ls) h l (inl e) = subst (λ x. true_in w v x ≡ true) e (and_parts _ _ h).0
all_true_each w v (m ∷ ls) h l (inr i) = all_true_each w v ls (and_parts _ _ h).1 l i

each_all_true : (w : Row) (v : ℕ → Bool) (ls : List Literal) → ((l : Literal) → Among ls l → true_in w v l ≡ true) → all_true w v ls ≡ true
unfolding all_true
each_all_true w v [] h = refl
each_all_true w v (m ∷ ls) h = and_from _ _ (h m (inl refl)) (each_all_true w v ls (λ l i. h l (inr i)))

some_true_each : (w : Row) (v : ℕ → Bool) (rs : List Rule) → some_true w v rs ≡ true → (r : Rule) × Among rs r × (all_true w v r.body ≡ true)
unfolding some_true
some_true_each w v [] h = absurd (false≢true h)
some_true_each w v (r ∷ rs) h = ⊎_elim (λ t. (r, inl refl, t)) (λ t. let (s, i, k) = some_true_each w v rs t in (s, inr i, k)) (or_cases _ _ h)

each_some_true : (w : Row) (v : ℕ → Bool) (rs : List Rule) (r : Rule) → Among rs r → all_true w v r.body ≡ true → some_true w v rs ≡ true
unfolding some_true
each_some_true w v [] r i h = absurd i
each_some_true w v (s ∷ rs) r (inl e) h = or_left _ _ (subst (λ (x : Rule). all_true w v x.body ≡ true) (sym e) h)
each_some_true w v (s ∷ rs) r (inr i) h = or_right _ _ (each_some_true w v rs r i h)

pub rule_for : (rules : List Rule) (a : ℕ) (r : Rule) → Among (rules_for rules a) r → Among rules r × (r.head ≡ a)
rule_for rules a r i = let (j, e) = kept_among (λ (r : Rule). eqb r.head a) rules r i in (j, eqb-true _ _ e)

is_derived : (rules : List Rule) (w : Row) (v : ℕ → Bool) (a : ℕ) → derived rules w v a ≡ true → Derived rules w v a
is_derived rules w v a h =
    let (r, i, k) = some_true_each w v (rules_for rules a) h in
    let (j, e) = rule_for rules a r i in
    (r, j, e, all_true_each w v r.body k)

derived_is : (rules : List Rule) (w : Row) (v : ℕ → Bool) (a : ℕ) → Derived rules w v a → derived rules w v a ≡ true
derived_is rules w v a (r, i, e, k) = each_some_true w v (rules_for rules a) r (among_kept (λ (r : Rule). eqb r.head a) rules r i (eq-eqb _ _ e)) (each_all_true w v r.body k)

-- what is derived for an atom depends only on the atoms that its rules use
same_literal : (w : Row) (v u : ℕ → Bool) (l : Literal) → ((b : ℕ) → (l ≡ is_true b) ⊎ (l ≡ is_false b) → v b ≡ u b) → true_in w v l ≡ true_in w u l
same_literal w v u (is_true a) e = e a (inl refl)
same_literal w v u (is_false a) e = ap not (e a (inr refl))
same_literal w v u (chosen i n) e = refl
same_literal w v u (not_chosen i n) e = refl

same_body : (w : Row) (v u : ℕ → Bool) (ls : List Literal) → ((b : ℕ) → Uses ls b → v b ≡ u b) → all_true w v ls ≡ all_true w u ls
unfolding all_true
same_body w v u [] e = refl
same_body w v u (l ∷ ls) e =
    ap₂ (λ (x y : Bool). x && y)
    (same_literal w v u l (λ b k. e b (⊎_elim (λ q. inl (inl q)) (λ q. inr (inl q)) k)))
    (same_body w v u ls (λ b k. e b (⊎_elim (λ q. inl (inr q)) (λ q. inr (inr q)) k)))

same_rules : (w : Row) (v u : ℕ → Bool) (rs : List Rule) → ((r : Rule) → Among rs r → (b : ℕ) → Uses r.body b → v b ≡ u b) → some_true w v rs ≡ some_true w u rs
unfolding some_true
same_rules w v u [] e = refl
same_rules w v u (r ∷ rs) e = ap₂ (λ (x y : Bool). x || y) (same_body w v u r.body (e r (inl refl))) (same_rules w v u rs (λ s i. e s (inr i)))

same_derived : (rules : List Rule) (w : Row) (v u : ℕ → Bool) (a : ℕ) → Layered rules → ((b : ℕ) → b < a → v b ≡ u b) → derived rules w v a ≡ derived rules w u a
same_derived rules w v u a k e = same_rules w v u (rules_for rules a) (λ r i b m. let (j, q) = rule_for rules a r i in e b (subst (λ h. b < h) q (k r b j m)))

-- enough rounds say the same
module _ (rules : List Rule) (w : Row) (k : Layered rules) where
  rounds : (m n a : ℕ) → a < m → a < n → settled rules w m a ≡ settled rules w n a
  unfolding settled
  rounds zero n a h l = absurd (omega arith)
  rounds (suc m) zero a h l = absurd (omega arith)
  rounds (suc m) (suc n) a h l = same_derived rules w (settled rules w m) (settled rules w n) a k (λ b i. rounds m n b (omega arith) (omega arith))

  pub truth_derived : (a : ℕ) → truth rules w a ≡ derived rules w (truth rules w) a
  unfolding truth settled
  truth_derived a = same_derived rules w (settled rules w a) (truth rules w) a k (λ b i. rounds a (suc b) b i (omega arith))

  -- what is stable agrees with the rounds
  stable_rounds : (v : ℕ → Bool) → Stable rules w v → (n a : ℕ) → a < n → v a ≡ settled rules w n a
  unfolding settled
  stable_rounds v s zero a h = absurd (omega arith)
  stable_rounds v s (suc n) a h =
      same_tests (v a) (derived rules w v a) (λ t. derived_is rules w v a ((s a).0 t)) (λ t. (s a).1 (is_derived rules w v a t))
      ∙ same_derived rules w v (settled rules w n) a k (λ b i. stable_rounds v s n b (omega arith))

pub truth_stable : TruthStable
truth_stable rules w k a = (λ t. is_derived rules w (truth rules w) a (sym (truth_derived rules w k a) ∙ t), λ d. truth_derived rules w k a ∙ derived_is rules w (truth rules w) a d)

pub truth_only : TruthOnly
unfolding truth
truth_only rules w v k s a = stable_rounds rules w k v s (suc a) a (omega arith)

-- the truth of the rules is stable for those that stand for them
pub truth_alike : TruthAlike
truth_alike held rules w a k s =
    sym (truth_only held w (truth rules w) (λ r b i. k r b (s.sound r i)) (λ b. (
      λ t.
          let (r, i, e, d) = (truth_stable rules w k b).0 t in
          let (h, j, p, q) = s.enough r i in
          (h, j, p ∙ e, λ l m. d l (q l m)),
      λ (r, i, e, d). (truth_stable rules w k b).1 (r, s.sound r i, e, d),
    )) a)
