-- The lists that are worked out for the atoms.
use Rattle.std.proofs.Common.{◌≡◌, ℕ, zero, suc, ◌<◌, Bool, true, cond, ◌&&◌, ◌||◌, ◌⊎◌, List, [], ◌∷◌, ◌++◌, length, get_or, Some, sym, refl, ap, ◌∙◌, subst, inl, inr, ⊎_elim, arith, length-append}
use mathlib.Core.Bool.{and-true, and_assoc, or-false, or_assoc}
use Rattle.std.specs.Option.{option_map, option_zip}
use Rattle.std.proofs.ByRecursion.{All-append}
use Rattle.std.proofs.lemmas.List.{get_or_push, get_or_append_left}
use Rattle.std.proofs.lemmas.Bool.{cond-true, cases_eq, or_left}
use Rattle.rows.specs.Keeping.{covered, and_then}
use Rattle.rows.specs.Minimal.{Among}
use Rattle.rows.specs.Rows.{earlier}
use Rattle.rows.proofs.Kept.{kept_all_append, run_covers}
use Rattle.rows.proofs.Members.{all_among, all_from_among}
use Rattle.logic.specs.Options.{Row, Options, SoundOptions, World, Formed, AllFormed}
use Rattle.logic.specs.Minimals.{under, Covers}
use Rattle.logic.specs.Rules.{Literal, is_true, is_false, chosen, not_chosen, Rule, Uses, Layered, all_true, some_true, rules_for, truth}
use Rattle.logic.specs.Needed.{Closed, needed}
use Rattle.logic.specs.Explanations.{holds, Explained}
use Rattle.logic.specs.Duals.{empty, put_rows, conjoined, duals}
use Rattle.logic.specs.Atoms.{Lists, nothing, lists_of, body_from, bodies_from, negated_list, own_list, worked, table, TableExplains, GoalExplains}
use Rattle.logic.proofs.Bases.{some_same, then_some, mapped_some, zipped_some, kept_basis}
use Rattle.logic.proofs.Conjoined.{conjoined_basis, conjoined_both}
use Rattle.logic.proofs.Formed.{empty_formed, world_empty, union_formed}
use Rattle.logic.proofs.Duals.{duals_deny, duals_affirm}
use Rattle.logic.proofs.Laws.{orders}
use Rattle.logic.proofs.Needs.{needed_just}
use Rattle.logic.proofs.Places.{rows_at_formed, rows_at_covers}
use Rattle.logic.proofs.Truths.{truth_derived, rule_for}

-- a list of two parts covers what either covers
pub covered_append : (xs ys : List Row) (w : Row) → covered under (xs ++ ys) w ≡ (covered under xs w || covered under ys w)
covered_append [] ys w = refl
covered_append (x ∷ xs) ys w = ap (λ b. under x w || b) (covered_append xs ys w) ∙ sym (or_assoc (under x w) (covered under xs w) (covered under ys w))

conjoined_formed : (limit : ℕ) (os : Options) (xs ys zs : List Row) → AllFormed os xs → AllFormed os ys → conjoined limit xs ys ≡ Some zs → AllFormed os zs
conjoined_formed limit os xs ys zs f g h = all_from_among (Formed os) zs (λ r i.
    let (a, b, j, k, c, e) = (conjoined_basis limit xs ys zs h).sound r i in
    subst (Formed os) e (union_formed os a b (all_among (Formed os) xs f a j) (all_among (Formed os) ys g b k)))

-- the lists of an atom explain it and its negation
abbrev Good : Options → List Rule → ℕ → Lists → Type 0
Good os rules a e = Explained os rules (is_true a) e.own × Explained os rules (is_false a) e.negated

module _ (limit : ℕ) (os : Options) (rules : List Rule) (b : SoundOptions os) (t : List Lists) where
  pub literal_formed : (l : Literal) → ((c : ℕ) → (l ≡ is_true c) ⊎ (l ≡ is_false c) → Good os rules c (get_or t c nothing)) → AllFormed os (lists_of os t l).own
  literal_formed (is_true c) g = (g c (inl refl)).0.formed
  literal_formed (is_false c) g = (g c (inr refl)).1.formed
  literal_formed (chosen place n) g = rows_at_formed os place _
  literal_formed (not_chosen place n) g = rows_at_formed os place _

  pub literal_covers : (l : Literal) → ((c : ℕ) → (l ≡ is_true c) ⊎ (l ≡ is_false c) → Good os rules c (get_or t c nothing)) → Covers os (lists_of os t l).own (λ w. holds rules w l)
  literal_covers (is_true c) g = (g c (inl refl)).0.covers
  literal_covers (is_false c) g = (g c (inr refl)).1.covers
  literal_covers (chosen place n) g = rows_at_covers os place _ b
  literal_covers (not_chosen place n) g = rows_at_covers os place _ b

  -- the rows of a body cover the worlds in which all its literals hold
  body_good : (ls : List Literal) (rows found : List Row) → ((c : ℕ) → Uses ls c → Good os rules c (get_or t c nothing)) → AllFormed os rows → body_from limit os t rows ls ≡ Some found
      → AllFormed os found × ((w : Row) → World os w → covered under found w ≡ (covered under rows w && all_true w (truth rules w) ls))
  unfolding body_from all_true
  body_good [] rows found g f h =
      let e : rows ≡ found = some_same h in
      (subst (AllFormed os) e f, λ w v. ap (λ xs. covered under xs w) (sym e) ∙ sym (and-true (covered under rows w)))
  body_good (l ∷ ls) rows found g f h =
      let first = λ (c : ℕ) (k : (l ≡ is_true c) ⊎ (l ≡ is_false c)). g c (⊎_elim (λ q. inl (inl q)) (λ q. inr (inl q)) k) in
      let own : List Row = (lists_of os t l).own in
      let (next, p, q) = then_some (conjoined limit rows own) (λ next. body_from limit os t next ls) found h in
      let (f', e) = body_good ls next found (λ c k. g c (⊎_elim (λ q. inl (inr q)) (λ q. inr (inr q)) k)) (conjoined_formed limit os rows own next f (literal_formed l first) p) q in (
        f',
        λ w v.
            let rest : Bool = all_true w (truth rules w) ls in
            e w v ∙ ap (λ x. x && rest) (conjoined_both limit rows own next w p) ∙ and_assoc (covered under rows w) (covered under own w) rest
            ∙ ap (λ x. covered under rows w && (x && rest)) (literal_covers l first w v),
      )

  -- the list of the bodies covers the worlds in which some body holds; it is one run over all their rows
  bodies_good : (rs : List Rule) (put held found : List Row) → ((r : Rule) → Among rs r → (c : ℕ) → Uses r.body c → Good os rules c (get_or t c nothing))
      → AllFormed os put → put_rows limit [] put ≡ Some held → bodies_from limit os t held rs ≡ Some found
      → (all : List Row) × AllFormed os all × (put_rows limit [] all ≡ Some found) × ((w : Row) → World os w → covered under all w ≡ (covered under put w || some_true w (truth rules w) rs))
  unfolding bodies_from some_true
  bodies_good [] put held found g f run h = (put, f, run ∙ h, λ w v. sym (or-false (covered under put w)))
  bodies_good (r ∷ rs) put held found g f run h =
      let (rows, p, q) = then_some (body_from limit os t (empty os ∷ []) r.body) _ found h in
      let (next, m, n) = then_some (put_rows limit held rows) _ found q in
      let (f', e) = body_good r.body (empty os ∷ []) rows (g r (inl refl)) (empty_formed os, tt) p in
      let run' : put_rows limit [] (put ++ rows) ≡ Some next = kept_all_append under earlier limit [] put rows ∙ ap (λ o. and_then o (λ zs. put_rows limit zs rows)) run ∙ m in
      let (all, k, last, c) = bodies_good rs (put ++ rows) next found (λ s i. g s (inr i)) (All-append (Formed os) put rows f f') run' n in (
        all,
        k,
        last,
        λ w v.
            let rest : Bool = some_true w (truth rules w) rs in
            c w v ∙ ap (λ x. x || rest) (covered_append put rows w) ∙ or_assoc (covered under put w) (covered under rows w) rest
            ∙ ap (λ x. covered under put w || (x || rest)) (e w v ∙ ap (λ x. x && all_true w (truth rules w) r.body) (or_left _ _ (world_empty os w v))),
      )

  module _ (k : Layered rules) (a : ℕ) (g : (r : Rule) → Among (rules_for rules a) r → (c : ℕ) → Uses r.body c → Good os rules c (get_or t c nothing)) where
    bodies_cover : (rows : List Row) → bodies_from limit os t [] (rules_for rules a) ≡ Some rows → AllFormed os rows × Covers os rows (λ w. truth rules w a)
    bodies_cover rows h =
        let (all, f, run, c) = bodies_good (rules_for rules a) [] [] rows g tt refl h in
        let valid = all_from_among (λ (r : Row). true ≡ true) all (λ _ _. refl) in (
          all_from_among (Formed os) rows (λ r i. all_among (Formed os) all f r ((kept_basis limit all rows run).sound r i)),
          λ w v. run_covers orders limit all rows valid run w refl ∙ c w v ∙ sym (truth_derived rules w k a),
        )

    negated_good : (ds : List Row) → negated_list limit os rules t a ≡ Some ds → Explained os rules (is_false a) ds
    negated_good ds h =
        let (rows, p, q) = then_some (bodies_from limit os t [] (rules_for rules a)) (duals limit os) ds h in
        let (f, c) = bodies_cover rows p in
        duals_deny limit os rows ds (λ w. truth rules w a) b f c q

    own_good : (es : List Row) → own_list limit os rules t a ≡ Some es → Explained os rules (is_true a) es
    own_good es h =
        let (ds, m, n) = then_some (negated_list limit os rules t a) (duals limit os) es h in
        let (rows, p, q) = then_some (bodies_from limit os t [] (rules_for rules a)) (duals limit os) ds m in
        let (f, c) = bodies_cover rows p in
        duals_affirm limit os rows ds es (λ w. truth rules w a) b f c q n

    worked_good : (e : Lists) → worked limit os rules t a ≡ Some e → Good os rules a e
    unfolding worked
    worked_good e h =
        let (both, p, q) = mapped_some _ (option_zip (own_list limit os rules t a) (negated_list limit os rules t a)) e h in
        let (m, n) = zipped_some (own_list limit os rules t a) (negated_list limit os rules t a) both p in
        subst (Good os rules a) q (own_good both.0 m, negated_good both.1 n)

-- one atom after another
table_good : (limit : ℕ) (os : Options) (rules : List Rule) (wanted : ℕ → Bool) → SoundOptions os → Layered rules → Closed rules wanted
    → (n : ℕ) (t : List Lists) → table limit os rules wanted n ≡ Some t
    → (length t ≡ n) × ((a : ℕ) → a < n → wanted a ≡ true → Good os rules a (get_or t a nothing))
unfolding table
table_good limit os rules wanted b k c zero t h = (ap length (sym (some_same h)), λ a l. absurd (omega arith))
table_good limit os rules wanted b k c (suc n) t h =
    let (before, p, q) = then_some (table limit os rules wanted n) _ t h in
    let (e, r, s) = mapped_some (λ (e : Lists). before ++ (e ∷ [])) (cond (wanted n) (worked limit os rules before n) (Some nothing)) t q in
    let (size, good) = table_good limit os rules wanted b k c n before p in
    let new : wanted n ≡ true → Good os rules n e = λ yes.
    worked_good limit os rules b before k n
    (λ r i d u. let (j, is) = rule_for rules n r i in good d (subst (λ m. d < m) is (k r d j u)) (c r d j (ap wanted is ∙ yes) u))
    e (sym (cond-true (wanted n) _ _ yes) ∙ r) in (
      ap length (sym s) ∙ omega (arith, length-append before (e ∷ [])),
      λ a l yes. subst (λ t. Good os rules a (get_or t a nothing)) s (⊎_elim
          (λ is. subst (λ m. Good os rules m (get_or (before ++ (e ∷ [])) m nothing)) (sym is) (subst (Good os rules n) (sym (get_or_push before e nothing n size)) (new (ap wanted (sym is) ∙ yes))))
          (λ other. let l' : a < length before = omega arith in subst (Good os rules a) (sym (get_or_append_left before (e ∷ []) nothing a l')) (good a (omega arith) yes))
          (cases_eq a n)),
    )

pub table_explains : TableExplains
table_explains limit os rules wanted n t b k c h = (table_good limit os rules wanted b k c n t h).1

pub goal_explains : GoalExplains
goal_explains limit os rules a t b k h =
    let n = needed_just rules a k in
    table_explains limit os rules (needed rules a) (suc a) t b k n.closed h a (omega arith) n.start

-- a table depends only on which atoms are wanted
pub table_alike : (limit : ℕ) (os : Options) (rules : List Rule) (u v : ℕ → Bool) (n : ℕ) → ((a : ℕ) → a < n → u a ≡ v a) → table limit os rules u n ≡ table limit os rules v n
unfolding table
table_alike limit os rules u v zero e = refl
table_alike limit os rules u v (suc n) e =
    ap (λ o. and_then o (λ t. option_map (λ e. t ++ (e ∷ [])) (cond (u n) (worked limit os rules t n) (Some nothing)))) (table_alike limit os rules u v n (λ a l. e a (omega arith)))
    ∙ ap (λ b. and_then (table limit os rules v n) (λ t. option_map (λ e. t ++ (e ∷ [])) (cond b (worked limit os rules t n) (Some nothing)))) (e n (omega arith))
