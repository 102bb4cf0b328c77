-- Marking atoms.
use Rattle.std.proofs.Common.{◌≡◌, [], ◌∷◌, ℕ, zero, suc, ◌+◌, ◌-◌, ◌<◌, ◌≤◌, Bool, true, false, cond, ◌&&◌, ◌||◌, eqb, List, map, length, get_or, drop, set, replicate, sym, refl, ap, ◌∙◌, ⊎_elim, arith}
use mathlib.Core.Bool.{or-true, or-false, or_assoc}
use Rattle.std.proofs.lemmas.List.{at_drop_more, at_drop_all, get_or-set_same, get_or-set_other}
use Rattle.std.proofs.lemmas.Bool.{cases_eq, cases_Bool, both_ways, cond-true, cond-false, or_left, or_right, or_cases, eqb-true, eq-eqb, ne_eqb}
use Rattle.rows.specs.Minimal.{Among}
use Rattle.logic.specs.Needed.{Closed, uses, used, is_of}
use Rattle.logic.specs.Rules as rules
use Rattle.logic.proofs.Needs.{used_true, true_used}
use Rattle.model.specs.declared.literal.Literal.{Literal}
use Rattle.model.specs.declared.rule.Rule.{Rule}
use Rattle.model.specs.Literals.{blank_literal}
use Rattle.model.specs.Meaning.{meaning, held_rule}
use Rattle.model.specs.Rules.{literals}
use Rattle.explain.specs.Marks.{marked, Marked}
use Rattle.explain.proofs.Bodies.{no_rule}

-- one mark more
pub mark_one : (marks : List Bool) (at a : ℕ) → at < length marks → marked (set marks at true) a ≡ (marked marks a || eqb at a)
mark_one marks at a h = ⊎_elim
    (λ (is : at ≡ a). ap (λ k. get_or (set marks at true) k false) (sym is) ∙ get_or-set_same marks at true false h ∙ sym (ap (λ b. marked marks a || b) (eq-eqb at a is) ∙ or-true (marked marks a)))
    (λ other. get_or-set_other marks at a true false (λ e. other (sym e)) ∙ sym (ap (λ b. marked marks a || b) (ne_eqb at a other) ∙ or-false (marked marks a)))
    (cases_eq at a)

-- a literal of an atom, and one of a choice
pub of_atom : (l : Literal) (a : ℕ) → l.kind ≤ 1 → is_of a (meaning l) ≡ eqb l.first a
of_atom l a h = ⊎_elim
    (λ (is : l.kind ≡ 0). ap (is_of a) (cond-true _ _ _ (eq-eqb l.kind 0 is)))
    (λ other. ap (is_of a) (cond-false _ _ _ (ne_eqb l.kind 0 other) ∙ cond-true _ _ _ (eq-eqb l.kind 1 (omega arith))))
    (cases_eq l.kind 0)

pub of_choice : (l : Literal) (a : ℕ) → 1 < l.kind → is_of a (meaning l) ≡ false
of_choice l a h =
    ap (is_of a) (cond-false _ _ _ (ne_eqb l.kind 0 (λ e. omega arith)) ∙ cond-false _ _ _ (ne_eqb l.kind 1 (λ e. omega arith))) ∙ go (eqb l.kind 2)
  where
    go : (b : Bool) → is_of a (cond b (rules.chosen (l.first - 1) l.second) (rules.not_chosen (l.first - 1) l.second)) ≡ false
    go true = refl
    go false = refl

-- the turns of the loop over the literals of a body
module _ (marks : List Bool) (body : List Literal) (i : ℕ) where
  pub uses_all : length body ≤ i → (a : ℕ) → uses (map meaning (drop i body)) a ≡ false
  unfolding uses
  uses_all l a = at_drop_all (λ ls. uses (map meaning ls) a) body i l

  module _ (h : i < length body) (a : ℕ) where
    abbrev here : Literal
    here = get_or body i blank_literal

    uses_step : uses (map meaning (drop i body)) a ≡ (is_of a (meaning here) || uses (map meaning (drop (i + 1) body)) a)
    unfolding uses
    uses_step = at_drop_more (λ ls. uses (map meaning ls) a) body i blank_literal h

    -- what is marked so far, with what is left to mark, stays the same
    pub body_next : (next : List Bool) → marked next a ≡ (marked marks a || is_of a (meaning here)) → (marked next a || uses (map meaning (drop (i + 1) body)) a) ≡ (marked marks a || uses (map meaning (drop i body)) a)
    body_next next is =
        ap (λ b. b || uses (map meaning (drop (i + 1) body)) a) is ∙ or_assoc (marked marks a) (is_of a (meaning here)) (uses (map meaning (drop (i + 1) body)) a)
        ∙ ap (λ b. marked marks a || b) (sym uses_step)

    pub body_marks : here.kind ≤ 1 → here.first < length marks → (marked (set marks here.first true) a || uses (map meaning (drop (i + 1) body)) a) ≡ (marked marks a || uses (map meaning (drop i body)) a)
    body_marks k l = body_next (set marks here.first true) (mark_one marks here.first a l ∙ ap (λ b. marked marks a || b) (sym (of_atom here a k)))

    pub body_passes : is_of a (meaning here) ≡ false → (marked marks a || uses (map meaning (drop (i + 1) body)) a) ≡ (marked marks a || uses (map meaning (drop i body)) a)
    body_passes none = body_next marks (sym (ap (λ b. marked marks a || b) none ∙ or-false (marked marks a)))

-- the turns of the loop over the rules
module _ (atom : ℕ) (rs : List Rule) (i : ℕ) (a : ℕ) where
  abbrev left : ℕ → Bool
  left n = used (map held_rule (drop n rs)) (λ head. eqb head atom) a

  pub used_all : length rs ≤ i → left i ≡ false
  unfolding used
  used_all l = at_drop_all (λ qs. used (map held_rule qs) (λ head. eqb head atom) a) rs i l

  module _ (h : i < length rs) where
    abbrev rule : Rule
    rule = get_or rs i no_rule

    used_step : left i ≡ ((eqb rule.head atom && uses (map meaning (literals rule)) a) || left (i + 1))
    unfolding used
    used_step = at_drop_more (λ qs. used (map held_rule qs) (λ head. eqb head atom) a) rs i no_rule h

    pub used_more : (marks next : List Bool) → eqb rule.head atom ≡ true → marked next a ≡ (marked marks a || uses (map meaning (literals rule)) a) → (marked next a || left (i + 1)) ≡ (marked marks a || left i)
    used_more marks next same is =
        ap (λ b. b || left (i + 1)) is ∙ or_assoc (marked marks a) (uses (map meaning (literals rule)) a) (left (i + 1))
        ∙ ap (λ b. marked marks a || b) (sym (used_step ∙ ap (λ b. (b && uses (map meaning (literals rule)) a) || left (i + 1)) same))

    pub used_skip : (marks : List Bool) → eqb rule.head atom ≡ false → (marked marks a || left (i + 1)) ≡ (marked marks a || left i)
    used_skip marks other = ap (λ b. marked marks a || b) (sym (used_step ∙ ap (λ b. (b && uses (map meaning (literals rule)) a) || left (i + 1)) other))

-- nothing is marked at the start
pub unmarked : (n a : ℕ) → marked (replicate n false) a ≡ false
unmarked zero a = refl
unmarked (suc n) zero = refl
unmarked (suc n) (suc a) = unmarked n a

-- while the atoms that an atom uses are marked, those below n are done
pub record Underway (rs : List rules.Rule) (atom : ℕ) (before after : List Bool) (n : ℕ) : Type 0 where
  pub more : (a : ℕ) → marked before a ≡ true → marked after a ≡ true
  pub closed : rules.Layered rs → (r : rules.Rule) (a : ℕ) → Among rs r → marked after r.head ≡ true → marked before r.head ≡ false → rules.Uses r.body a → marked after a ≡ true
  pub least : (other : ℕ → Bool) → other atom ≡ true → Closed rs other → ((a : ℕ) → marked before a ≡ true → other a ≡ true) → (a : ℕ) → marked after a ≡ true → other a ≡ true
  pub done : (a : ℕ) → a < n → used rs (λ head. eqb head atom) a ≡ true → marked after a ≡ true

module _ (rs : List rules.Rule) (atom : ℕ) (before : List Bool) where
  pub underway_none : Underway rs atom before before 0
  underway_none = record {
    more = λ a h. h;
    closed = λ k r a i h n u. absurd (both_ways _ n h);
    least = λ other s c b a h. b a h;
    done = λ a l. absurd (omega arith);
  }

  module _ (after : List Bool) (n : ℕ) (w : Underway rs atom before after n) where
    pub underway_pass : used rs (λ head. eqb head atom) n ≡ false → Underway rs atom before after (n + 1)
    underway_pass none = record {
      more = w.more;
      closed = w.closed;
      least = w.least;
      done = λ a l u. ⊎_elim
          (λ (is : a ≡ n). absurd (both_ways _ none (ap (used rs (λ head. eqb head atom)) (sym is) ∙ u)))
          (λ other. w.done a (omega arith) u)
          (cases_eq a n);
    }

    pub underway_mark : (next : List Bool) → used rs (λ head. eqb head atom) n ≡ true → Marked rs n after next → Underway rs atom before next (n + 1)
    underway_mark next u m = record {
      more = λ a h. m.more a (w.more a h);
      closed = λ k r a i h none v. ⊎_elim
          (λ t. m.more a (w.closed k r a i t none v))
          (λ f. m.closed k r a i h f v)
          (cases_Bool (marked after r.head));
      least = λ other s c b a h.
          let (r, i, is, v) = used_true rs (λ head. eqb head atom) n u in
          let here : other n ≡ true = c r n i (ap other (eqb-true r.head atom is) ∙ s) v in
          m.least other here c (w.least other s c b) a h;
      done = λ a l v. ⊎_elim
          (λ (is : a ≡ n). ap (marked next) is ∙ m.start)
          (λ other. m.more a (w.done a (omega arith) v))
          (cases_eq a n);
    }

  -- where all are done, the atom is marked with all that it depends on
  pub underway_all : (after : List Bool) (n : ℕ) → atom < length before → atom ≤ n → Underway rs atom (set before atom true) after n → Marked rs atom before after
  underway_all after n inside l w = record {
    start = w.more atom (first atom (or_right _ _ (eq-eqb atom atom refl)));
    more = λ a h. w.more a (first a (or_left _ _ h));
    closed = λ k r a i h none u. ⊎_elim
        (λ (is : r.head ≡ atom). let low = k r a i u in w.done a (omega arith) (true_used rs (λ head. eqb head atom) a r i (eq-eqb r.head atom is) u))
        (λ other. w.closed k r a i h (mark_one before atom r.head inside ∙ ap (λ b. b || eqb atom r.head) none ∙ ne_eqb atom r.head (λ e. other (sym e))) u)
        (cases_eq r.head atom);
    least = λ other s c b a h. w.least other s c
        (λ x t. ⊎_elim (b x) (λ e. ap other (sym (eqb-true atom x e)) ∙ s) (or_cases _ _ (sym (mark_one before atom x inside) ∙ t))) a h;
  }
    where
      first : (a : ℕ) → (marked before a || eqb atom a) ≡ true → marked (set before atom true) a ≡ true
      first a h = mark_one before atom a inside ∙ h

-- where a list is cut before one of its elements
cut_before : {X : Type 0} (n : ℕ) (xs : List X) (x d : X) (ys : List X) → drop n xs ≡ x ∷ ys → (get_or xs n d ≡ x) × (ys ≡ drop (suc n) xs)
cut_before zero [] x d ys h = cc
cut_before (suc n) [] x d ys h = cc
cut_before zero (z ∷ xs) x d ys h = (ap (λ l. get_or l 0 d) h, sym (ap (drop 1) h))
cut_before (suc n) (z ∷ xs) x d ys h = cut_before n xs x d ys h

pub drop_front : {X : Type 0} (n : ℕ) (xs : List X) (x d : X) (ys : List X) → drop n xs ≡ x ∷ ys → (get_or xs n d ≡ x) × (ys ≡ drop (n + 1) xs)
drop_front n xs x d ys h =
    let (here, left) = cut_before n xs x d ys h in
    let e : suc n ≡ n + 1 = omega arith in
    (here, left ∙ ap (λ k. drop k xs) e)
