-- The minimal ones of a list, and one more; and lists that a run leaves as they are.
use Rattle.std.proofs.Common.{◌≡◌, ℕ, ◌+◌, ◌≤◌, Bool, true, false, leb, List, [], ◌∷◌, ◌++◌, length, Some, None, sym, refl, ap, ◌∙◌, subst, inl, inr, ⊎_elim, append_assoc, append-nil, arith}
use Rattle.std.proofs.lemmas.List.{length-append}
use Rattle.std.proofs.lemmas.Bool.{both_ways, cases_Bool, cond-true, cond-false, le-leb, leb-true, or_from, not_from_false}
use Rattle.rows.specs.Keeping.{covered, spared, placed, within, kept, and_then, kept_all}
use Rattle.rows.specs.Minimal.{Among, AllValid, Minimal, Ascending, Minimals}
use Rattle.rows.specs.Orders.{Orders}
use Rattle.rows.proofs.Members.{at_cond, all_among, among_left}
use Rattle.rows.proofs.Kept.{Stands, stands_next, stands_minimal, some_same, none_some, first_put}
use Rattle.rows.proofs.Puts.{length_placed}
use Rattle.rows.proofs.Spares.{spared_most}

module _ {V : Type 0} {valid : V → Bool} {below before : V → V → Bool} (o : Orders valid below before) where
  -- under each element of a list stands a minimal one
  descends : (d : V) (xs : List V) → valid d ≡ true → AllValid valid xs → (e : V) × Minimal below (d ∷ xs) e × (below e d ≡ true)
  descends d [] v vs = (d, (inl refl, λ y h b. ⊎_elim sym absurd h), o.itself d v)
  descends d (x ∷ xs) v vs =
      let m = descends d xs v vs.1 in
      let n = descends x xs vs.0 vs.1 in
      let sound : (e : V) → Among (d ∷ (x ∷ xs)) e → valid e ≡ true = all_among (λ e. valid e ≡ true) (d ∷ (x ∷ xs)) (v, vs) in
      let wider : (e : V) → Among (d ∷ xs) e → Among (d ∷ (x ∷ xs)) e = λ e h. ⊎_elim inl (λ k. inr (inr k)) h in
      ⊎_elim
      (λ t.
      let under : below n.0 d ≡ true =
      o.through n.0 x d (sound n.0 (inr n.1.0)) vs.0 v n.2 (o.through x m.0 d vs.0 (sound m.0 (wider m.0 m.1.0)) v t m.2) in
      (n.0, (inr n.1.0, λ y h b. ⊎_elim (λ e. o.same y n.0 (subst (λ (u : V). valid u ≡ true) e v) (sound n.0 (inr n.1.0)) b (subst (λ (u : V). below n.0 u ≡ true) e under)) (λ k. n.1.1 y k b) h), under))
      (λ f. (m.0, (wider m.0 m.1.0, λ y h b. ⊎_elim (λ e. m.1.1 y (inl e) b) (⊎_elim (λ e. absurd (both_ways _ (subst (λ (u : V). below u m.0 ≡ false) e f) b)) (λ k. m.1.1 y (inr k) b)) h), m.2))
      (cases_Bool (below x m.0))

  pub minimals_stand : (xs ys : List V) → AllValid valid xs → Minimals below before xs ys → Stands valid below before xs ys
  minimals_stand xs ys vs m =
      let sound : (e : V) → Among xs e → valid e ≡ true = all_among (λ e. valid e ≡ true) xs vs in
      record {
        sound = sound;
        from = λ e h. ((m.members e).0 h).0;
        cover = λ d h.
            let r = descends d xs (sound d h) vs in
            (r.0, (m.members r.0).1 (⊎_elim (λ e. subst (Among xs) e h) (λ k. k) r.1.0, λ y k b. r.1.1 y (inr k) b), r.2);
        free = λ e f h k b. ((m.members f).0 k).1 e ((m.members e).0 h).0 b;
        ascends = m.ascending;
      }

  -- where one more is put and not refused, what is held is the minimal ones still
  pub minimals_push : (limit : ℕ) (xs ys : List V) (x : V) (zs : List V) → AllValid valid xs → valid x ≡ true → Minimals below before xs ys → kept below before limit ys x ≡ Some zs → Minimals below before (xs ++ (x ∷ [])) zs
  minimals_push limit xs ys x zs vs v m h = stands_minimal o (xs ++ (x ∷ [])) zs (stands_next o xs ys x v (minimals_stand xs ys vs m) limit zs h)

  -- an element that no other of ys is below or above, and that stands behind them, goes in at their end
  uncovered : (ys : List V) (x : V) → ((e : V) → Among ys e → below e x ≡ false) → covered below ys x ≡ false
  uncovered [] x h = refl
  uncovered (y ∷ ys) x h = or_from _ _ (h y (inl refl)) (uncovered ys x (λ e k. h e (inr k)))

  spared_all : (ys : List V) (x : V) → ((e : V) → Among ys e → below x e ≡ false) → spared below x ys ≡ ys
  spared_all [] x h = refl
  spared_all (y ∷ ys) x h = cond-true _ _ _ (not_from_false _ (h y (inl refl))) ∙ ap (λ l. y ∷ l) (spared_all ys x (λ e k. h e (inr k)))

  placed_end : (ys : List V) (x : V) → ((e : V) → Among ys e → before x e ≡ false) → placed before x ys ≡ ys ++ (x ∷ [])
  placed_end [] x h = refl
  placed_end (y ∷ ys) x h = cond-false _ _ _ (h y (inl refl)) ∙ ap (λ l. y ∷ l) (placed_end ys x (λ e k. h e (inr k)))

  kept_end : (limit : ℕ) (ys : List V) (x : V) → ((e : V) → Among ys e → below e x ≡ false) → ((e : V) → Among ys e → below x e ≡ false) → ((e : V) → Among ys e → before x e ≡ false)
      → length ys + 1 ≤ limit → kept below before limit ys x ≡ Some (ys ++ (x ∷ []))
  kept_end limit ys x under over after room =
      let one : placed before x (spared below x ys) ≡ ys ++ (x ∷ []) = ap (placed before x) (spared_all ys x over) ∙ placed_end ys x after in
      cond-false _ _ _ (uncovered ys x under) ∙ ap (within limit) one ∙ cond-true _ _ _ (le-leb _ limit (omega (arith, length-append ys (x ∷ []))))

  among_here : (ps qs : List V) (q : V) → Among (ps ++ (q ∷ qs)) q
  among_here [] qs q = inl refl
  among_here (p ∷ ps) qs q = inr (among_here ps qs q)

  ascending_front : (ps qs : List V) (q e : V) → Ascending before (ps ++ (q ∷ qs)) → Among ps e → before e q ≡ true
  ascending_front [] qs q e h k = absurd k
  ascending_front (p ∷ ps) qs q e h k = ⊎_elim (λ is. subst (λ (u : V). before u q ≡ true) is (h.0 q (among_here ps qs q))) (ascending_front ps qs q e h.1) k

  settled : (limit : ℕ) (ps qs : List V) → ((e : V) → Among (ps ++ qs) e → valid e ≡ true) → Ascending before (ps ++ qs)
      → ((e f : V) → Among (ps ++ qs) e → Among (ps ++ qs) f → below e f ≡ true → e ≡ f) → length (ps ++ qs) ≤ limit → kept_all below before limit ps qs ≡ Some (ps ++ qs)
  settled limit ps [] vs up free room = ap Some (sym (append-nil ps))
  settled limit ps (q ∷ qs) vs up free room =
      let here = among_here ps qs q in
      let v = vs q here in
      let wider : (e : V) → Among ps e → Among (ps ++ (q ∷ qs)) e = λ e. among_left ps (q ∷ qs) e in
      let apart : (e : V) → Among ps e → e ≡ q → ⊥ = λ e h is. both_ways _ (o.apart q v) (subst (λ (u : V). before u q ≡ true) is (ascending_front ps qs q e up h)) in
      let next : kept below before limit ps q ≡ Some (ps ++ (q ∷ [])) =
      kept_end limit ps q
      (λ e h. ⊎_elim (λ t. absurd (apart e h (free e q (wider e h) here t))) (λ f. f) (cases_Bool (below e q)))
      (λ e h. ⊎_elim (λ t. absurd (apart e h (sym (free q e here (wider e h) t)))) (λ f. f) (cases_Bool (below q e)))
      (λ e h. ⊎_elim (λ t. absurd (both_ways _ (o.apart q v) (o.onward q e q v (vs e (wider e h)) v t (ascending_front ps qs q e up h)))) (λ f. f) (cases_Bool (before q e)))
      (omega (arith, length-append ps (q ∷ qs))) in
      let same = append_assoc ps (q ∷ []) qs in
      ap (λ r. and_then r (λ zs. kept_all below before limit zs qs)) next
      ∙ settled limit (ps ++ (q ∷ [])) qs (rw same vs) (rw same up) (rw same free) (rw same room)
      ∙ ap Some same

  -- what is held is left as it is by a run over it
  pub minimals_settled : (limit : ℕ) (xs ys : List V) → AllValid valid xs → Minimals below before xs ys → length ys ≤ limit → kept_all below before limit [] ys ≡ Some ys
  minimals_settled limit xs ys vs m room =
      let s = minimals_stand xs ys vs m in
      settled limit [] ys (λ e h. s.sound e (s.from e h)) s.ascends s.free room

-- a run over no more elements than the limit is not refused
module _ {V : Type 0} (below before : V → V → Bool) (limit : ℕ) where
  kept_some : (ys : List V) (x : V) → length ys + 1 ≤ limit → (zs : List V) × (kept below before limit ys x ≡ Some zs) × (length zs ≤ length ys + 1)
  kept_some ys x room =
      let one = placed before x (spared below x ys) in
      let count = length_placed before x (spared below x ys) in
      let most = spared_most below x ys in
      ⊎_elim (λ t. (ys, cond-true _ _ _ t, omega arith))
      (λ f. (one, cond-false _ _ _ f ∙ cond-true _ _ _ (le-leb (length one) limit (omega arith)), omega arith))
      (cases_Bool (covered below ys x))

  pub kept_all_some : (xs ys : List V) → length ys + length xs ≤ limit → (zs : List V) × (kept_all below before limit ys xs ≡ Some zs)
  kept_all_some [] ys room = (ys, refl)
  kept_all_some (x ∷ xs) ys room =
      let first = kept_some ys x (omega arith) in
      let rest = kept_all_some xs first.0 (omega (arith, first.2)) in
      (rest.0, ap (λ r. and_then r (λ zs. kept_all below before limit zs xs)) first.1 ∙ rest.1)

  -- and what a run keeps is within the limit
  pub kept_fits : (ys : List V) (x : V) (zs : List V) → length ys ≤ limit → kept below before limit ys x ≡ Some zs → length zs ≤ limit
  kept_fits ys x zs room h =
      let one = placed before x (spared below x ys) in
      ⊎_elim (λ w. omega (arith, ap length (some_same w.1)))
      (λ w. ⊎_elim (λ v. omega (arith, ap length (some_same v.1), leb-true (length one) limit v.0)) (λ v. absurd (none_some v.1)) (at_cond (leb (length one) limit) (Some one) None (λ r. r ≡ Some zs) w.1))
      (at_cond (covered below ys x) (Some ys) (within limit one) (λ r. r ≡ Some zs) h)

  pub kept_all_fits : (xs ys zs : List V) → length ys ≤ limit → kept_all below before limit ys xs ≡ Some zs → length zs ≤ limit
  kept_all_fits [] ys zs room h = omega (arith, ap length (some_same h))
  kept_all_fits (x ∷ xs) ys zs room h =
      let r = first_put (kept below before limit ys x) (λ ws. kept_all below before limit ws xs) zs h in
      kept_all_fits xs r.0 zs (kept_fits ys x r.0 room r.1) r.2
