-- The contrary choices of a row.
use Rattle.std.proofs.Common.{◌≡◌, ℕ, zero, suc, ◌<◌, false, not, ◌||◌, eqb, [], ◌∷◌, ◌++◌, map, length, get_or, sym, refl, ◌∙◌, subst, ⊎_elim, arith}
use Rattle.std.proofs.lemmas.Bool.{true≢false, and_left, and_cases, or_right, cases_eq, eqb-false, ne_eqb, eq-eqb, not-true, not_from_false}
use Rattle.std.proofs.lemmas.Bool.Decides.{nat_tests}
use Rattle.rows.specs.Minimal.{Among}
use Rattle.rows.specs.Rows.{compatible}
use Rattle.rows.proofs.Members.{all_among, among_left, at_cond}
use Rattle.logic.specs.Options.{Row, Options, SoundOptions, Formed}
use Rattle.logic.specs.Duals.{others, alone, contrary_at, contrary_below, contrary}
use Rattle.logic.proofs.Bases.{Meets}
use Rattle.logic.proofs.Formed.{contains_empty, place_sound, place_formed, alone_formed, alone_contains}
use Rattle.logic.proofs.Members.{among_right, among_append, among_kept, kept_among, among_map, map_among}

-- c is another option of a place that m touches
abbrev Contrary : Options → Row → ℕ → ℕ → Type 0
Contrary os m place n = (get_or m place 0 ≡ 0 → ⊥) × (n ≡ get_or m place 0 → ⊥) × Among (get_or os place []) n

contrary_from : (os : Options) (m c : Row) (k : ℕ) → Among (contrary_below os m k) c → (place : ℕ) × (n : ℕ) × Contrary os m place n × (alone os place n ≡ c)
unfolding contrary_below
contrary_from os m c zero i = absurd i
contrary_from os m c (suc k) i = ⊎_elim (contrary_from os m c k)
    (λ j. ⊎_elim (λ w. absurd w.1)
    (λ w.
    let (n, l, e) = map_among (alone os k) (others (get_or os k []) (get_or m k 0)) c w.1 in
    let (a, p) = kept_among (λ n. not (eqb n (get_or m k 0))) (get_or os k []) n l in
    (k, n, (eqb-false _ 0 w.0, eqb-false n _ (not-true _ p), a), e))
    (at_cond (eqb (get_or m k 0) 0) [] (map (alone os k) (others (get_or os k []) (get_or m k 0))) (λ l. Among l c) j))
    (among_append (contrary_below os m k) (contrary_at os m k) c i)

contrary_to : (os : Options) (m : Row) (place n k : ℕ) → place < k → Contrary os m place n → Among (contrary_below os m k) (alone os place n)
unfolding contrary_below
contrary_to os m place n zero l h = absurd (omega arith)
contrary_to os m place n (suc k) l h = ⊎_elim
    (λ e. subst (λ j. Among (contrary_below os m k ++ contrary_at os m k) (alone os j n)) (sym e) (here (subst (λ j. Contrary os m j n) e h)))
    (λ e. among_left (contrary_below os m k) (contrary_at os m k) (alone os place n) (contrary_to os m place n k (omega arith) h))
    (cases_eq place k)
  where
    here : Contrary os m k n → Among (contrary_below os m k ++ contrary_at os m k) (alone os k n)
    here (p, q, i) = among_right (contrary_below os m k) (contrary_at os m k) (alone os k n) (rw (ne_eqb (get_or m k 0) 0 p)
        (among_map (alone os k) (others (get_or os k []) (get_or m k 0)) n (among_kept (λ n. not (eqb n (get_or m k 0))) (get_or os k []) n i (not_from_false _ (ne_eqb n _ q)))))

-- each contrary choice is well-formed and opposes the row
alone_opposes : (os : Options) (m : Row) (place n : ℕ) → Formed os m → 0 < n → (get_or m place 0 ≡ 0 → ⊥) → (n ≡ get_or m place 0 → ⊥) → compatible (alone os place n) m ≡ false
alone_opposes [] [] place n f pos p q = absurd (p refl)
alone_opposes [] (x ∷ xs) place n f pos p q = absurd f
alone_opposes (o ∷ os) [] place n f pos p q = absurd f
alone_opposes (o ∷ os) (x ∷ xs) zero n f pos p q = let no : (eqb n 0 || (eqb x 0 || eqb n x)) ≡ false = grind (arith, nat_tests) in and_left _ _ no
alone_opposes (o ∷ os) (x ∷ xs) (suc place) n f pos p q = alone_opposes os xs place n f.1 pos p q

pub contrary_sound : (os : Options) (m c : Row) → SoundOptions os → Formed os m → Among (contrary os m) c → Formed os c × (compatible c m ≡ false)
contrary_sound os m c b f i =
    let (place, n, (p, q, j), e) = contrary_from os m c (length os) i in
    subst (λ c. Formed os c × (compatible c m ≡ false)) e (
      alone_formed os place n (⊎_elim (λ z. absurd (p z)) (λ k. k.0) (place_formed os m place f)) j,
      alone_opposes os m place n f (all_among (λ n. 0 < n) (get_or os place []) (place_sound os place b) n j) p q,
    )

-- what opposes the row contains a contrary choice: the one that it makes where the two differ
abbrev Differ : Options → Row → Row → Type 0
Differ os r m = (place : ℕ) × (place < length os) × (get_or r place 0 ≡ 0 → ⊥) × (get_or m place 0 ≡ 0 → ⊥) × (get_or r place 0 ≡ get_or m place 0 → ⊥)

differ : (os : Options) (r m : Row) → Formed os r → Formed os m → compatible r m ≡ false → Differ os r m
differ [] [] [] f g h = absurd (true≢false h)
differ [] [] (y ∷ ys) f g h = absurd g
differ [] (x ∷ xs) m f g h = absurd f
differ (o ∷ os) [] m f g h = absurd f
differ (o ∷ os) (x ∷ xs) [] f g h = absurd g
differ (o ∷ os) (x ∷ xs) (y ∷ ys) f g h = ⊎_elim
    (λ (t : (eqb x 0 || (eqb y 0 || eqb x y)) ≡ false).
    let p : x ≡ 0 → ⊥ = grind (arith, nat_tests) in
    let q : y ≡ 0 → ⊥ = grind (arith, nat_tests) in
    let n : x ≡ y → ⊥ = grind (arith, nat_tests) in
    (0, omega arith, p, q, n))
    (λ t. let (place, l, p, q, n) = differ os xs ys f.1 g.1 t in (suc place, omega arith, p, q, n))
    (and_cases _ _ h)

pub contrary_covers : (os : Options) (m r : Row) → Formed os m → Formed os r → compatible r m ≡ false → Meets (contrary os m) r
contrary_covers os m r f g h =
    let (place, l, p, q, n) = differ os r m g f h in
    let x = get_or r place 0 in (
      alone os place x,
      contrary_to os m place x (length os) l (q, n, ⊎_elim (λ z. absurd (p z)) (λ k. k.1) (place_formed os r place g)),
      alone_contains os r place x (contains_empty os r g) l ∙ or_right (eqb x 0) _ (eq-eqb x x refl),
    )
