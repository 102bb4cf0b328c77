-- The lists of a choice are exactly its minimal explanations.
use Rattle.std.proofs.Common.{◌≡◌, ℕ, zero, suc, ◌<◌, ◌≤◌, Bool, true, false, cond, not, ◌||◌, eqb, ltb, List, [], ◌∷◌, map, length, get_or, filter, sym, refl, ap, ◌∙◌, subst, inl, inr, ⊎_elim, arith}
use Rattle.std.proofs.lemmas.Bool.{both_ways, and_from, or_left, or_right, eq-eqb, ne_eqb, cond_both, cases_eq, not_from_true}
use Rattle.std.proofs.lemmas.Bool.Decides.{nat_tests}
use Rattle.rows.specs.Minimal.{Among, Ascending}
use Rattle.rows.specs.Rows.{contains, compatible, earlier}
use Rattle.rows.proofs.Members.{all_among}
use Rattle.rows.specs.RowLaws.{contains_itself}
use Rattle.logic.specs.Options.{Row, Options, SoundOptions, Taken, World, Formed}
use Rattle.logic.specs.Minimals.{Forces, FullExplanation}
use Rattle.logic.specs.Duals.{empty, alone}
use Rattle.logic.specs.Atoms.{rows_at, ChoiceExplains}
use Rattle.logic.proofs.Bases.{Basis, minimals}
use Rattle.logic.proofs.Formed.{empty_formed, contains_empty, world_empty, place_sound, place_formed, place_taken, place_below, alone_formed, alone_contains}
use Rattle.logic.proofs.Laws.{compatible_under}
use Rattle.logic.proofs.Members.{among_kept, kept_among, among_map, map_among}
use Rattle.logic.proofs.Places.{rows_at_formed, rows_at_covers}
use Rattle.logic.proofs.Worlds.{common_world}

-- a row that is untouched at a place is compatible with each choice there
alone_fits : (os : Options) (r : Row) (place n : ℕ) → Formed os r → get_or r place 0 ≡ 0 → compatible r (alone os place n) ≡ true
alone_fits [] [] place n f z = refl
alone_fits [] (x ∷ xs) place n f z = absurd f
alone_fits (o ∷ os) [] place n f z = absurd f
alone_fits (o ∷ os) (x ∷ xs) zero n f z = and_from _ _ (or_left _ _ (eq-eqb x 0 z)) (compatible_under xs xs (empty os) (contains_itself xs) (contains_empty os xs f.1))
alone_fits (o ∷ os) (x ∷ xs) (suc place) n f z = and_from _ _ (or_right (eqb x 0) _ refl) (alone_fits os xs place n f.1 z)

-- choices at one place are in the order of their numbers
alone_at : (os : Options) (place n : ℕ) → place < length os → get_or (alone os place n) place 0 ≡ n
alone_at [] place n l = absurd (omega arith)
alone_at (o ∷ os) zero n l = refl
alone_at (o ∷ os) (suc place) n l = alone_at os place n (omega arith)

alone_earlier : (os : Options) (place m n : ℕ) → place < length os → ltb m n ≡ true → earlier (alone os place m) (alone os place n) ≡ true
alone_earlier [] place m n l h = absurd (omega arith)
alone_earlier (o ∷ os) zero m n l h = or_left _ _ h
alone_earlier (o ∷ os) (suc place) m n l h = alone_earlier os place m n (omega arith) h

kept_ascends : (os : Options) (place : ℕ) (p : ℕ → Bool) (o : List ℕ) → place < length os → Ascending ltb o → Ascending earlier (map (alone os place) (filter p o))
kept_ascends os place p [] l a = tt
kept_ascends os place p (n ∷ o) l a =
    cond_both (p n) (n ∷ filter p o) (filter p o) (λ ms. Ascending earlier (map (alone os place) ms))
    (λ _. (
      λ r i.
          let (m, j, e) = map_among (alone os place) (filter p o) r i in
          subst (λ s. earlier (alone os place n) s ≡ true) e (alone_earlier os place n m l (a.0 m (kept_among p o m j).0)),
      kept_ascends os place p o l a.1,
    ))
    (λ _. kept_ascends os place p o l a.1)

module _ (os : Options) (place : ℕ) (p : ℕ → Bool) where
  -- the world's number at the place passes
  abbrev passes : Row → Bool
  passes w = p (get_or w place 0)

  -- where every world has the same number there
  fixed_basis : (n : ℕ) → ((w : Row) → World os w → get_or w place 0 ≡ n) → Basis (Forces os passes) (cond (p n) (empty os ∷ []) [])
  fixed_basis n same = go (p n) refl
    where
      go : (t : Bool) → p n ≡ t → Basis (Forces os passes) (cond t (empty os ∷ []) [])
      go true e = record {
        sound = λ h i. ⊎_elim (λ q. subst (Forces os passes) q (empty_formed os, λ w v c. ap p (same w v) ∙ e)) absurd i;
        covers = λ r f. (empty os, inl refl, contains_empty os r f.0);
        apart = λ g h i j c. ⊎_elim (λ q. ⊎_elim (λ s. sym q ∙ s) absurd i) absurd j;
        ascends = (λ r i. absurd i, tt);
      }
      go false e = record {
        sound = λ h i. absurd i;
        covers = λ r f.
            let (w, v, c, d) = common_world os r r f.0 f.0 (compatible_under r r r (contains_itself r) (contains_itself r)) in
            absurd (both_ways (p n) e (sym (ap p (same w v)) ∙ f.1 w v c));
        apart = λ g h i j c. absurd i;
        ascends = tt;
      }

  module _ (b : SoundOptions os) (a : Ascending ltb (get_or os place [])) where
    -- what contains the row of an option holds it
    holds_it : (r : Row) (k : ℕ) → contains r (empty os) ≡ true → Among (get_or os place []) k → contains r (alone os place k) ≡ true → get_or r place 0 ≡ k
    holds_it r k h i c =
        let pos : 0 < k = all_among (λ n. 0 < n) (get_or os place []) (place_sound os place b) k i in
        let d : (eqb k 0 || eqb (get_or r place 0) k) ≡ true = sym (alone_contains os r place k h (place_below os place k i)) ∙ c in
        grind (arith, nat_tests)

    -- where there are several options, and one of them fails
    free_basis : 2 ≤ length (get_or os place []) → (n : ℕ) → Among (get_or os place []) n → p n ≡ false → Basis (Forces os passes) (map (alone os place) (filter p (get_or os place [])))
    free_basis two n i fails = record {
      sound = λ r j.
          let (k, l, e) = map_among (alone os place) (filter p (get_or os place [])) r j in
          let (m, q) = kept_among p (get_or os place []) k l in
          subst (Forces os passes) e (alone_formed os place k two m, λ w v c. ap p (holds_it w k (world_empty os w v) m c) ∙ q);
      covers = λ r f. ⊎_elim
          (λ z. absurd (both_ways (p n) fails (fits r f n i (alone_fits os r place n f.0 z))))
          (λ t.
          let x : ℕ = get_or r place 0 in
          let c : contains r (alone os place x) ≡ true = alone_contains os r place x (contains_empty os r f.0) (place_below os place x t.1) ∙ or_right (eqb x 0) _ (eq-eqb x x refl) in
          (alone os place x, among_map (alone os place) _ x (among_kept p (get_or os place []) x t.1 (fits r f x t.1 (compatible_under r r _ (contains_itself r) c))), c))
          (place_formed os r place f.0);
      apart = λ g h j k c.
          let (x, l, e) = map_among (alone os place) (filter p (get_or os place [])) g j in
          let (y, m, d) = map_among (alone os place) (filter p (get_or os place [])) h k in
          let q = (kept_among p (get_or os place []) x l).0 in
          let s = (kept_among p (get_or os place []) y m).0 in
          let c' : contains (alone os place x) (alone os place y) ≡ true = subst (λ r. contains r (alone os place y) ≡ true) (sym e) (subst (λ r. contains g r ≡ true) (sym d) c) in
          let same : x ≡ y = sym (alone_at os place x (place_below os place x q)) ∙ holds_it (alone os place x) y (contains_empty os _ (alone_formed os place x two q)) s c' in
          sym d ∙ ap (alone os place) (sym same) ∙ e;
      ascends = kept_ascends os place p (get_or os place []) (place_below os place n i) a;
    }
      where
        -- an option that a row allows passes, if the row forces it
        fits : (r : Row) → Forces os passes r → (k : ℕ) → Among (get_or os place []) k → compatible r (alone os place k) ≡ true → p k ≡ true
        fits r f k j c =
            let (w, v, d, e) = common_world os r (alone os place k) f.0 (alone_formed os place k two j) c in
            sym (ap p (holds_it w k (world_empty os w v) j e)) ∙ f.1 w v d

    -- of several options one fails
    abbrev OneFails : Type 0
    OneFails = 2 ≤ length (get_or os place []) → (n : ℕ) × Among (get_or os place []) n × (p n ≡ false)

    rows_at_basis : OneFails → Basis (Forces os passes) (rows_at os place p (get_or os place []))
    unfolding rows_at
    rows_at_basis fails = go (get_or os place []) refl
      where
        go : (o : List ℕ) → get_or os place [] ≡ o → Basis (Forces os passes) (rows_at os place p o)
        go [] e = fixed_basis 0 (λ w v. subst (λ o. Taken o (get_or w place 0)) e (place_taken os w place v))
        go (n ∷ []) e = fixed_basis n (λ w v. ⊎_elim sym absurd (subst (λ o. Taken o (get_or w place 0)) e (place_taken os w place v)))
        go (n ∷ (m ∷ o)) e =
            let two : 2 ≤ length (get_or os place []) = subst (λ o. 2 ≤ length o) (sym e) (omega arith) in
            let (k, i, f) = fails two in
            subst (λ o. Basis (Forces os passes) (map (alone os place) (filter p o))) e (free_basis two k i f)

    pub rows_at_explain : OneFails → FullExplanation os passes (rows_at os place p (get_or os place []))
    rows_at_explain fails = record { minimal = minimals (rows_at_basis fails); covers = rows_at_covers os place p b; formed = rows_at_formed os place p }

-- of two options one is another than n
another : (o : List ℕ) (n : ℕ) → Ascending ltb o → 2 ≤ length o → (m : ℕ) × Among o m × (eqb m n ≡ false)
another [] n a two = absurd (omega arith)
another (k ∷ []) n a two = absurd (omega arith)
another (k ∷ (m ∷ o)) n a two =
    let less = a.0 m (inl refl) in
    ⊎_elim (λ e. (m, inr (inl refl), grind (arith, nat_tests))) (λ e. (k, inl refl, ne_eqb k n e)) (cases_eq k n)

pub choice_explains : ChoiceExplains
choice_explains os rules place n b a among = (
  rows_at_explain os place (λ m. eqb m n) b a (another (get_or os place []) n a),
  rows_at_explain os place (λ m. not (eqb m n)) b a (λ two. (n, among two, not_from_true _ (eq-eqb n n refl))),
)
