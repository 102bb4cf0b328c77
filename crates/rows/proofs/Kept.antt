-- What a run keeps is the minimal ones of what was put, it covers what those cover, and the order of arrival is no matter.
use Rattle.std.proofs.Common.{◌≡◌, ℕ, ◌+◌, ◌≤◌, Bool, true, false, leb, ◌⊎◌, List, [], ◌∷◌, ◌++◌, length, Some, None, Option, sym, refl, ap, ◌∙◌, subst, inl, inr, ⊎_elim, append_assoc, append-nil, arith}
use Rattle.std.proofs.lemmas.Bool.{both_ways, cases_Bool, cond_both}
use Rattle.rows.specs.Keeping.{covered, spared, placed, within, kept, and_then, kept_all}
use Rattle.rows.specs.Minimal.{Among, AllValid, Ascending, Once, Minimals, CoversAlike, Alike, InAnyOrder}
use Rattle.rows.specs.Orders.{Orders}
use Rattle.rows.proofs.Members.{at_cond, same_tests, all_among, all_from_among, among_left, among_last, among_push, covered_some, covered_by, covered_none, spared_from, spared_to, spared_ascends, placed_from, placed_to}
use Rattle.rows.proofs.Puts.{length_placed}
use Rattle.rows.proofs.Spares.{spared_most}

pub some_same : {X : Type 0} {x y : X} → Some x ≡ Some y → x ≡ y
some_same h = cc

pub none_some : {X : Type 0} {x : X} → ◌≡◌ {A = Option X} None (Some x) → ⊥
none_some h = let z : ◌≡◌ {A = ℕ} 0 1 = cc in omega arith

-- a run that is not refused, taken apart at its first put
pub first_put : {V : Type 0} (o : Option (List V)) (next : List V → Option (List V)) (zs : List V) → and_then o next ≡ Some zs → (ys : List V) × (o ≡ Some ys) × (next ys ≡ Some zs)
first_put (Some ys) next zs h = (ys, refl, h)
first_put None next zs h = absurd (none_some h)

-- a run in two parts
and_then_twice : {V : Type 0} (o : Option (List V)) (f g h : List V → Option (List V)) → ((ys : List V) → f ys ≡ and_then (g ys) h) → and_then o f ≡ and_then (and_then o g) h
and_then_twice (Some ys) f g h e = e ys
and_then_twice None f g h e = refl

pub kept_all_append : {V : Type 0} (below before : V → V → Bool) (limit : ℕ) (ys xs zs : List V)
    → kept_all below before limit ys (xs ++ zs) ≡ and_then (kept_all below before limit ys xs) (λ ws. kept_all below before limit ws zs)
kept_all_append below before limit ys [] zs = refl
kept_all_append below before limit ys (x ∷ xs) zs = and_then_twice (kept below before limit ys x) _ _ _ (λ ws. kept_all_append below before limit ws xs zs)

-- what a put that is not refused keeps
pub kept_either : {V : Type 0} (below before : V → V → Bool) (limit : ℕ) (ys : List V) (x : V) (zs : List V) → kept below before limit ys x ≡ Some zs
    → ((covered below ys x ≡ true) × (ys ≡ zs)) ⊎ ((covered below ys x ≡ false) × (placed before x (spared below x ys) ≡ zs))
kept_either below before limit ys x zs h =
    let one = placed before x (spared below x ys) in
    ⊎_elim
    (λ w. inl (w.0, some_same w.1))
    (λ w. ⊎_elim (λ v. inr (w.0, some_same v.1)) (λ v. absurd (none_some v.1)) (at_cond (leb (length one) limit) (Some one) None (λ r. r ≡ Some zs) w.1))
    (at_cond (covered below ys x) (Some ys) (within limit one) (λ r. r ≡ Some zs) h)

-- a put adds one at most
pub kept_grows : {V : Type 0} (below before : V → V → Bool) (limit : ℕ) (ys : List V) (x : V) (zs : List V) → Some zs ≡ kept below before limit ys x → length zs ≤ length ys + 1
kept_grows below before limit ys x zs h =
    ⊎_elim
    (λ w. omega (arith, ap length w.1))
    (λ w. omega (arith, ap length w.1, length_placed before x (spared below x ys), spared_most below x ys))
    (kept_either below before limit ys x zs (sym h))

-- `held` stands for all of `put`
pub record Stands {V : Type 0} (valid : V → Bool) (below before : V → V → Bool) (put held : List V) : Type 0 where
  pub sound : (e : V) → Among put e → valid e ≡ true
  pub from : (e : V) → Among held e → Among put e
  pub cover : (d : V) → Among put d → (e : V) × Among held e × (below e d ≡ true)
  pub free : (e f : V) → Among held e → Among held f → below e f ≡ true → e ≡ f
  pub ascends : Ascending before held

module _ {V : Type 0} {valid : V → Bool} {below before : V → V → Bool} (o : Orders valid below before) where
  placed_ascends : (x : V) (ys : List V) → valid x ≡ true → ((e : V) → Among ys e → valid e ≡ true) → (Among ys x → ⊥) → Ascending before ys → Ascending before (placed before x ys)
  placed_ascends x [] v vs new h = (λ e k. absurd k, tt)
  placed_ascends x (y ∷ ys) v vs new h =
      cond_both (before x y) (x ∷ y ∷ ys) (y ∷ placed before x ys) (Ascending before)
      (λ b. (λ e k. ⊎_elim (λ l. subst (λ (u : V). before x u ≡ true) l b) (λ l. o.onward x y e v (vs y (inl refl)) (vs e k) b (h.0 e l)) k, h))
      (λ b.
      let back : before y x ≡ true = ⊎_elim (λ t. t) (λ f. absurd (new (inl (sym (o.total x y v (vs y (inl refl)) b f))))) (cases_Bool (before y x)) in
      (λ e k. ⊎_elim (λ l. subst (λ (u : V). before y u ≡ true) l back) (h.0 e) (placed_from before x ys e k), placed_ascends x ys v (λ e k. vs e (inr k)) (λ k. new (inr k)) h.1))

  ascends_once : (ys : List V) → ((e : V) → Among ys e → valid e ≡ true) → Ascending before ys → Once ys
  ascends_once [] vs h = tt
  ascends_once (y ∷ ys) vs h = (λ k. both_ways _ (o.apart y (vs y (inl refl))) (h.0 y k), ascends_once ys (λ e k. vs e (inr k)) h.1)

  -- one more that is put: covered, or not
  module _ (put held : List V) (x : V) (v : valid x ≡ true) (s : Stands valid below before put held) where
    still_sound : (e : V) → Among (put ++ (x ∷ [])) e → valid e ≡ true
    still_sound e h = ⊎_elim (s.sound e) (λ k. subst (λ (u : V). valid u ≡ true) k v) (among_push put x e h)

    stands_same : covered below held x ≡ true → Stands valid below before (put ++ (x ∷ [])) held
    stands_same c = record {
      sound = still_sound;
      from = λ e h. among_left put (x ∷ []) e (s.from e h);
      cover = λ d h. ⊎_elim (s.cover d) (λ k. let r = covered_some below x held c in (r.0, r.1, subst (λ (u : V). below r.0 u ≡ true) k r.2)) (among_push put x d h);
      free = s.free;
      ascends = s.ascends;
    }

    stands_one : covered below held x ≡ false → Stands valid below before (put ++ (x ∷ [])) (placed before x (spared below x held))
    stands_one c =
        let left = spared below x held in
        let old : (e : V) → Among left e → Among held e × (below x e ≡ false) = spared_from below x held in
        let split : (e : V) → Among (placed before x left) e → (x ≡ e) ⊎ Among left e = placed_from before x left in
        let vs : (e : V) → Among held e → valid e ≡ true = λ e h. s.sound e (s.from e h) in
        record {
          sound = still_sound;
          from = λ e h. ⊎_elim (λ k. subst (Among (put ++ (x ∷ []))) k (among_last put x)) (λ k. among_left put (x ∷ []) e (s.from e (old e k).0)) (split e h);
          cover = λ d h. ⊎_elim
              (λ k. let r = s.cover d k in
              ⊎_elim (λ t. (x, placed_to before x left x (inl refl), o.through x r.0 d v (vs r.0 r.1) (s.sound d k) t r.2))
              (λ f. (r.0, placed_to before x left r.0 (inr (spared_to below x held r.0 r.1 f)), r.2))
              (cases_Bool (below x r.0)))
              (λ k. (x, placed_to before x left x (inl refl), subst (λ (u : V). below x u ≡ true) k (o.itself x v)))
              (among_push put x d h);
          free = λ e f h k b. ⊎_elim
              (λ p. ⊎_elim (λ q. sym p ∙ q) (λ q. absurd (both_ways _ (old f q).1 (subst (λ (u : V). below u f ≡ true) (sym p) b))) (split f k))
              (λ p. ⊎_elim (λ q. absurd (both_ways _ (covered_none below x held c e (old e p).0) (subst (λ (u : V). below e u ≡ true) (sym q) b))) (λ q. s.free e f (old e p).0 (old f q).0 b) (split f k))
              (split e h);
          ascends = placed_ascends x left v (λ e h. vs e (old e h).0) (λ h. both_ways _ (old x h).1 (o.itself x v)) (spared_ascends below x before held s.ascends);
        }

    pub stands_next : (limit : ℕ) (zs : List V) → kept below before limit held x ≡ Some zs → Stands valid below before (put ++ (x ∷ [])) zs
    stands_next limit zs h =
        ⊎_elim
        (λ w. subst (Stands valid below before (put ++ (x ∷ []))) w.1 (stands_same w.0))
        (λ w. subst (Stands valid below before (put ++ (x ∷ []))) w.1 (stands_one w.0))
        (kept_either below before limit held x zs h)

  stands_all : (limit : ℕ) (xs put held zs : List V) → AllValid valid xs → Stands valid below before put held → kept_all below before limit held xs ≡ Some zs → Stands valid below before (put ++ xs) zs
  stands_all limit [] put held zs vs s h = let is : held ≡ zs = some_same h in rw append-nil (subst (Stands valid below before put) is s)
  stands_all limit (x ∷ xs) put held zs vs s h =
      let r = first_put (kept below before limit held x) (λ ys. kept_all below before limit ys xs) zs h in
      rw append_assoc at (stands_all limit xs (put ++ (x ∷ [])) r.0 zs vs.1 (stands_next put held x vs.0 s limit r.0 r.1) r.2)

  -- what stands for all of xs is the minimal ones of xs
  pub stands_minimal : (xs zs : List V) → Stands valid below before xs zs → Minimals below before xs zs
  stands_minimal xs zs s =
      let ok : (e : V) → Among zs e → valid e ≡ true = λ e k. s.sound e (s.from e k) in
      record {
        members = λ e. (
          λ k. (
            s.from e k,
            λ y l b.
                let r = s.cover y l in
                let is : r.0 ≡ e = s.free r.0 e r.1 k (o.through r.0 y e (ok r.0 r.1) (s.sound y l) (ok e k) r.2 b) in
                o.same y e (s.sound y l) (ok e k) b (subst (λ (u : V). below u y ≡ true) is r.2),
          ),
          λ m. let r = s.cover e m.0 in subst (Among zs) (m.1 r.0 (s.from r.0 r.1) r.2) r.1,
        );
        once = ascends_once zs ok s.ascends;
        ascending = s.ascends;
      }

  -- a run over xs that is not refused and keeps zs
  module _ (limit : ℕ) (xs zs : List V) (vs : AllValid valid xs) (h : kept_all below before limit [] xs ≡ Some zs) where
    run_stands : Stands valid below before xs zs
    run_stands = stands_all limit xs [] [] zs vs (record { sound = λ e k. absurd k; from = λ e k. k; cover = λ d k. absurd k; free = λ e f k. absurd k; ascends = tt }) h

    pub run_minimal : Minimals below before xs zs
    run_minimal = stands_minimal xs zs run_stands

    pub run_covers : CoversAlike valid below xs zs
    run_covers w v =
        let s = run_stands in
        same_tests (covered below zs w) (covered below xs w)
        (λ t. let r = covered_some below w zs t in covered_by below w xs r.0 (s.from r.0 r.1) r.2)
        (λ t.
        let r = covered_some below w xs t in
        let k = s.cover r.0 r.1 in
        covered_by below w zs k.0 k.1 (o.through k.0 r.0 w (s.sound k.0 (s.from k.0 k.1)) (s.sound r.0 r.1) v k.2 r.2))

  -- two ascending lists with the same members are one
  pub ascending_same : (xs ys : List V) → ((e : V) → Among xs e → valid e ≡ true) → Ascending before xs → Ascending before ys → Alike xs ys → xs ≡ ys
  ascending_same [] [] vs h k p = refl
  ascending_same [] (y ∷ ys) vs h k p = absurd ((p y).1 (inl refl))
  ascending_same (x ∷ xs) [] vs h k p = absurd ((p x).0 (inl refl))
  ascending_same (x ∷ xs) (y ∷ ys) vs h k p =
      let ox : before x x ≡ false = o.apart x (vs x (inl refl)) in
      let first : x ≡ y =
      ⊎_elim sym
      (λ s. ⊎_elim (λ e. e) (λ t. absurd (both_ways _ ox (o.onward x y x (vs x (inl refl)) (vs y (inr t)) (vs x (inl refl)) (h.0 y t) (k.0 x s)))) ((p y).1 (inl refl)))
      ((p x).0 (inl refl)) in
      let rest : xs ≡ ys =
      ascending_same xs ys (λ e s. vs e (inr s)) h.1 k.1 (λ e. (
        λ s. ⊎_elim (λ t. absurd (both_ways _ ox (subst (λ (u : V). before x u ≡ true) (sym t ∙ sym first) (h.0 e s)))) (λ t. t) ((p e).0 (inr s)),
        λ s. ⊎_elim (λ t. absurd (both_ways _ ox (subst (λ (u : V). before u u ≡ true) (sym first) (subst (λ (u : V). before y u ≡ true) (sym t ∙ first) (k.0 e s))))) (λ t. t) ((p e).1 (inr s)),
      )) in
      cc

  pub run_any_order : (limit : ℕ) (xs zs : List V) → AllValid valid xs → kept_all below before limit [] xs ≡ Some zs → InAnyOrder below before xs zs
  run_any_order limit xs zs vs h room others ws like k =
      let sound : AllValid valid others = all_from_among (λ e. valid e ≡ true) others (λ e m. all_among (λ e. valid e ≡ true) xs vs e ((like e).1 m)) in
      let l = run_minimal limit xs zs vs h in
      let r = run_minimal room others ws sound k in
      ascending_same zs ws (λ e m. all_among (λ e. valid e ≡ true) xs vs e ((l.members e).0 m).0) l.ascending r.ascending (λ e. (
        λ m. let n = (l.members e).0 m in (r.members e).1 ((like e).0 n.0, λ y q. n.1 y ((like y).1 q)),
        λ m. let n = (r.members e).0 m in (l.members e).1 ((like e).1 n.0, λ y q. n.1 y ((like y).0 q)),
      ))
