-- The duals of a list of rows.
use Rattle.std.proofs.Common.{◌≡◌, ℕ, Bool, false, not, List, [], ◌∷◌, Some, sym, refl, ap, ◌∙◌, subst, inl, inr}
use Rattle.std.proofs.lemmas.Bool.{not-false, not-true, not_from_true, not_from_false}
use Rattle.rows.specs.Keeping.{covered}
use Rattle.rows.specs.Rows.{compatible, union}
use Rattle.rows.proofs.Members.{same_tests, all_from_among}
use Rattle.rows.specs.RowLaws.{contains_through}
use Rattle.logic.specs.Options.{Row, Options, SoundOptions, Formed, AllFormed}
use Rattle.logic.specs.Minimals.{under, Covers, Forces, FullExplanation}
use Rattle.logic.specs.Duals.{empty, contrary, conjoined, duals_from, duals, Opposes, DualsMinimal, DualsDeny, DualsAffirm}
use Rattle.logic.proofs.Bases.{Basis, meets, covers_it, minimals, basis_like, then_some, some_same}
use Rattle.logic.proofs.Conjoined.{UnionOf, conjoined_basis, both_meet}
use Rattle.logic.proofs.Contraries.{contrary_sound, contrary_covers}
use Rattle.logic.proofs.Formed.{empty_formed, contains_empty, union_formed}
use Rattle.logic.proofs.Laws.{opposes_up, union_both}
use Rattle.logic.proofs.Worlds.{opposes_worlds, core, core_formed, core_contained, core_decides}

abbrev Against : Options → List Row → Row → Type 0
Against os rows r = Formed os r × Opposes rows r

-- one more member
opposes_more : (m : Row) (ms : List Row) (r : Row) → compatible r m ≡ false → Opposes ms r → Opposes (m ∷ ms) r
opposes_more m ms r h o n (inl e) = subst (λ n. compatible r n ≡ false) e h
opposes_more m ms r h o n (inr i) = o n i

step : (limit : ℕ) (os : Options) (m : Row) (ms ds es : List Row) → SoundOptions os → Formed os m → Basis (Against os ms) ds → conjoined limit ds (contrary os m) ≡ Some es → Basis (Against os (m ∷ ms)) es
step limit os m ms ds es b f d h =
    let k = conjoined_basis limit ds (contrary os m) es h in
    record {
      sound = λ u i. against u (k.sound u i);
      covers = λ r a. both_meet limit ds (contrary os m) es h r (d.covers r (a.0, λ n j. a.1 n (inr j))) (contrary_covers os m r f a.0 (a.1 m (inl refl)));
      apart = k.apart;
      ascends = k.ascends;
    }
  where
    against : (u : Row) → UnionOf ds (contrary os m) u → Against os (m ∷ ms) u
    against u (x, y, i, j, c, e) =
        let p = d.sound x i in
        let q = contrary_sound os m y b f j in
        let t = union_both x y c in
        subst (Against os (m ∷ ms)) e (
          union_formed os x y p.0 q.0,
          opposes_more m ms (union x y) (opposes_up (union x y) y m t.1 q.1) (λ n k. opposes_up (union x y) x n t.0 (p.1 n k)),
        )

start : (os : Options) → Basis (Against os []) (empty os ∷ [])
start os = record {
  sound = λ h. elim [ inl e ↦ (subst (Formed os) e (empty_formed os), λ m i. absurd i) | inr i ↦ absurd i ];
  covers = λ r a. (empty os, inl refl, contains_empty os r a.0);
  apart = λ g h. elim [ inl e ↦ elim [ inl k ↦ λ _. sym k ∙ e | inr j ↦ absurd j ] | inr i ↦ absurd i ];
  ascends = ((λ g i. absurd i), tt);
}

-- the members so far, and those to come
walk : (limit : ℕ) (os : Options) (done rows ds es : List Row) → SoundOptions os → AllFormed os rows → Basis (Against os done) ds → duals_from limit os ds rows ≡ Some es → Basis (λ r. Against os done r × Opposes rows r) es
unfolding duals_from
walk limit os done [] ds es b f d h = subst (Basis (λ r. Against os done r × Opposes [] r)) (some_same h) (basis_like (λ r a. (a, λ m i. absurd i)) (λ r a. a.0) d)
walk limit os done (m ∷ rows) ds es b f d h =
    let (next, p, q) = then_some (conjoined limit ds (contrary os m)) (λ es. duals_from limit os es rows) es h in
    basis_like
    (λ r a. ((a.0.0, λ n j. a.0.1 n (inr j)), opposes_more m rows r (a.0.1 m (inl refl)) a.1))
    (λ r a. ((a.0.0, opposes_more m done r (a.1 m (inl refl)) a.0.1), λ n j. a.1 n (inr j)))
    (walk limit os (m ∷ done) rows next es b f.1 (step limit os m done ds next b f.0 d p) q)

pub duals_basis : (limit : ℕ) (os : Options) (rows ds : List Row) → SoundOptions os → AllFormed os rows → duals limit os rows ≡ Some ds → Basis (Against os rows) ds
unfolding duals
duals_basis limit os rows ds b f h = basis_like (λ r a. (a.0.0, a.1)) (λ r a. ((a.0, λ m i. absurd i), a.1)) (walk limit os [] rows (empty os ∷ []) ds b f (start os) h)

pub duals_minimal : DualsMinimal
duals_minimal limit os rows ds b f h = minimals (duals_basis limit os rows ds b f h)

-- a basis of what forces G is a full explanation of it
pub explanation : (os : Options) (G : Row → Bool) (rows : List Row) → SoundOptions os → Basis (Forces os G) rows → FullExplanation os G rows
explanation os G rows b d = record {
  minimal = minimals d;
  covers = λ w v. same_tests (covered under rows w) (G w)
      (λ t. let (h, i, c) = meets rows w t in (d.sound h i).1 w v c)
      (λ t.
      let (h, i, c) = d.covers (core os w) (core_formed os w v, λ x y c. ap G (core_decides os w x b v y c) ∙ t) in
      covers_it rows w (h, i, contains_through h (core os w) w c (core_contained os w v)));
  formed = all_from_among (Formed os) rows (λ r i. (d.sound r i).0);
}

-- where the rows cover G, their duals force not G
denies : (limit : ℕ) (os : Options) → SoundOptions os → (rows ds : List Row) (G : Row → Bool) → AllFormed os rows → Covers os rows G → duals limit os rows ≡ Some ds → Basis (Forces os (λ w. not (G w))) ds
denies limit os b rows ds G f e h = basis_like
    (λ r a. (a.0, λ w v c. not_from_false _ (sym (e w v) ∙ (opposes_worlds os rows r f a.0).0 a.1 w v c)))
    (λ r a. (a.0, (opposes_worlds os rows r f a.0).1 (λ w v c. e w v ∙ not-true _ (a.1 w v c))))
    (duals_basis limit os rows ds b f h)

pub duals_deny : DualsDeny
duals_deny limit os rows ds G b f e h = explanation os (λ w. not (G w)) ds b (denies limit os b rows ds G f e h)

pub duals_affirm : DualsAffirm
duals_affirm limit os rows ds es G b f e h k =
    let d = duals_deny limit os rows ds G b f e h in
    explanation os G es b (basis_like
    (λ r a. (a.0, λ w v c. not-false _ (not-true _ (a.1 w v c))))
    (λ r a. (a.0, λ w v c. not_from_false _ (not_from_true _ (a.1 w v c))))
    (denies limit os b ds es (λ w. not (G w)) d.formed d.covers k))
