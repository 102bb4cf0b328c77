-- The rows of a choice.
use Rattle.std.proofs.Common.{◌≡◌, ℕ, ◌<◌, ◌≤◌, Bool, true, false, cond, ◌||◌, eqb, List, [], ◌∷◌, map, length, get_or, filter, sym, refl, ap, ◌∙◌, subst, inl, inr, arith}
use Rattle.std.specs.List.{AllByRecursion}
use Rattle.std.proofs.lemmas.Bool.{or_left, or_right, eq-eqb}
use Rattle.std.proofs.lemmas.Bool.Decides.{nat_tests}
use Rattle.rows.specs.Keeping.{covered}
use Rattle.rows.specs.Minimal.{Among}
use Rattle.rows.specs.Rows.{contains}
use Rattle.rows.proofs.Members.{same_tests, all_among, all_from_among}
use Rattle.logic.specs.Options.{Row, Options, SoundOptions, Taken, World, Formed, AllFormed}
use Rattle.logic.specs.Minimals.{under, Covers}
use Rattle.logic.specs.Duals.{empty, alone}
use Rattle.logic.specs.Atoms.{rows_at}
use Rattle.logic.proofs.Bases.{meets, covers_it}
use Rattle.logic.proofs.Formed.{empty_formed, world_empty, place_sound, place_taken, place_below, alone_formed, alone_contains}
use Rattle.logic.proofs.Members.{among_kept, kept_among, among_map, map_among}

-- the rows are well-formed, and cover the worlds whose number at the place passes
all_or_none : (os : Options) (b : Bool) → AllFormed os (cond b (empty os ∷ []) [])
all_or_none os true = (empty_formed os, tt)
all_or_none os false = tt

covers_all_or_none : (os : Options) (b : Bool) (w : Row) → World os w → covered under (cond b (empty os ∷ []) []) w ≡ b
covers_all_or_none os true w v = or_left _ _ (world_empty os w v)
covers_all_or_none os false w v = refl

module _ (os : Options) (place : ℕ) (p : ℕ → Bool) where
  pub rows_at_formed : AllFormed os (rows_at os place p (get_or os place []))
  unfolding rows_at
  rows_at_formed = go (get_or os place []) (alone_formed os place)
    where
      go : (o : List ℕ) → ((n : ℕ) → 2 ≤ length o → Among o n → Formed os (alone os place n)) → AllFormed os (rows_at os place p o)
      go [] f = all_or_none os (p 0)
      go (n ∷ []) f = all_or_none os (p n)
      go (n ∷ (m ∷ o)) f = all_from_among (Formed os) _ (λ r i.
          let (k, j, e) = map_among (alone os place) (filter p (n ∷ (m ∷ o))) r i in
          subst (Formed os) e (f k (omega arith) (kept_among p (n ∷ (m ∷ o)) k j).0))

  pub rows_at_covers : SoundOptions os → Covers os (rows_at os place p (get_or os place [])) (λ w. p (get_or w place 0))
  unfolding rows_at
  rows_at_covers b w v = go (get_or os place []) (place_sound os place b) (place_taken os w place v) (λ n i. alone_contains os w place n (world_empty os w v) (place_below os place n i))
    where
      free : (o : List ℕ) → AllByRecursion (λ n. 0 < n) o → Among o (get_or w place 0) → ((n : ℕ) → Among o n → contains w (alone os place n) ≡ (eqb n 0 || eqb (get_or w place 0) n))
          → covered under (map (alone os place) (filter p o)) w ≡ p (get_or w place 0)
      free o s t c = same_tests _ _
          (λ h.
          let (r, i, d) = meets (map (alone os place) (filter p o)) w h in
          let (k, j, e) = map_among (alone os place) (filter p o) r i in
          let (l, q) = kept_among p o k j in
          let pos : 0 < k = all_among (λ n. 0 < n) o s k l in
          let d' : (eqb k 0 || eqb (get_or w place 0) k) ≡ true = sym (c k l) ∙ ap (contains w) e ∙ d in
          let same : get_or w place 0 ≡ k = grind (arith, nat_tests) in
          ap p same ∙ q)
          (λ h. covers_it (map (alone os place) (filter p o)) w (
            alone os place (get_or w place 0),
            among_map (alone os place) (filter p o) (get_or w place 0) (among_kept p o (get_or w place 0) t h),
            c (get_or w place 0) t ∙ or_right (eqb (get_or w place 0) 0) _ (eq-eqb (get_or w place 0) (get_or w place 0) refl),
          ))

      go : (o : List ℕ) → AllByRecursion (λ n. 0 < n) o → Taken o (get_or w place 0) → ((n : ℕ) → Among o n → contains w (alone os place n) ≡ (eqb n 0 || eqb (get_or w place 0) n))
          → covered under (rows_at os place p o) w ≡ p (get_or w place 0)
      go [] s t c = covers_all_or_none os (p 0) w v ∙ ap p (sym t)
      go (n ∷ []) s (inl t) c = covers_all_or_none os (p n) w v ∙ ap p t
      go (n ∷ []) s (inr t) c = absurd t
      go (n ∷ (m ∷ o)) s t c = free (n ∷ (m ∷ o)) s t c
