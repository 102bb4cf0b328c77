-- Worlds that contain a row, and the row of a world.
use Rattle.std.proofs.Common.{◌≡◌, ℕ, ◌<◌, Bool, true, false, cond, ◌||◌, eqb, List, [], ◌∷◌, sym, refl, ap, ◌∙◌, ap₂, inl, inr, ⊎_elim, arith}
use Rattle.std.specs.List.{AllByRecursion}
use Rattle.std.proofs.lemmas.Bool.{false≢true, both_ways, and_parts, and_from, cases_Bool}
use Rattle.std.proofs.lemmas.Bool.Decides.{nat_tests}
use Rattle.rows.specs.Keeping.{covered}
use Rattle.rows.specs.Minimal.{Among}
use Rattle.rows.specs.Rows.{contains, compatible, union}
use Rattle.rows.proofs.Members.{all_among}
use Rattle.logic.specs.Options.{Row, Options, SoundOptions, Taken, World, OpenChoice, Formed}
use Rattle.logic.specs.Minimals.{under}
use Rattle.logic.specs.Duals.{CommonWorld, OpposesWorlds}
use Rattle.logic.proofs.Bases.{meets, covers_it}
use Rattle.logic.proofs.Formed.{union_formed}
use Rattle.logic.proofs.Laws.{compatible_under, union_parts}

-- a world that contains a row: the first option where the row is untouched
abbrev pick : List ℕ → ℕ → ℕ
pick [] x = x
pick (n ∷ o) x = cond (eqb x 0) n x

fill : Options → Row → Row
fill [] xs = []
fill (o ∷ os) [] = []
fill (o ∷ os) (x ∷ xs) = pick o x ∷ fill os xs

pick_taken : (o : List ℕ) (x : ℕ) → OpenChoice o x → Taken o (pick o x)
pick_taken [] x (inl e) = e
pick_taken [] x (inr p) = absurd p.1
pick_taken (n ∷ o) x h = go (eqb x 0) refl h
  where
    go : (t : Bool) → eqb x 0 ≡ t → OpenChoice (n ∷ o) x → Among (n ∷ o) (cond t n x)
    go true q k = inl refl
    go false q (inl e) = absurd (false≢true (sym q ∙ ap (λ y. eqb y 0) e))
    go false q (inr p) = p.1

fill_world : (os : Options) (r : Row) → Formed os r → World os (fill os r)
unfolding fill
fill_world [] [] f = tt
fill_world [] (x ∷ xs) f = absurd f
fill_world (o ∷ os) [] f = absurd f
fill_world (o ∷ os) (x ∷ xs) f = (pick_taken o x f.0, fill_world os xs f.1)

pick_agrees : (o : List ℕ) (x : ℕ) → (eqb x 0 || eqb (pick o x) x) ≡ true
pick_agrees [] x = grind (arith, nat_tests)
pick_agrees (n ∷ o) x = grind (arith, nat_tests)

fill_contains : (os : Options) (r : Row) → Formed os r → contains (fill os r) r ≡ true
unfolding fill
fill_contains [] [] f = refl
fill_contains [] (x ∷ xs) f = absurd f
fill_contains (o ∷ os) [] f = absurd f
fill_contains (o ∷ os) (x ∷ xs) f = and_from _ _ (pick_agrees o x) (fill_contains os xs f.1)

pub common_world : CommonWorld
common_world os r s f g c =
    let u = union_formed os r s f g in
    let p = union_parts r s c (fill os (union r s)) (fill_contains os (union r s) u) in
    (fill os (union r s), fill_world os (union r s) u, p.0, p.1)

pub opposes_worlds : OpposesWorlds
opposes_worlds os rows r f g = (
  λ o w v c. ⊎_elim (λ t. let (m, i, d) = meets rows w t in absurd (both_ways _ (o m i) (compatible_under w r m c d))) (λ q. q) (cases_Bool (covered under rows w)),
  λ h m i. ⊎_elim
      (λ t. let (w, v, c, d) = common_world os r m g (all_among (Formed os) rows f m i) t in absurd (both_ways _ (h w v c) (covers_it rows w (m, i, d))))
      (λ q. q)
      (cases_Bool (compatible r m)),
)

-- the row of a world: what it holds at the free places
abbrev freely : List ℕ → ℕ → ℕ
freely [] x = 0
freely (n ∷ []) x = 0
freely (n ∷ (m ∷ o)) x = x

pub core : Options → Row → Row
core [] xs = []
core (o ∷ os) [] = []
core (o ∷ os) (x ∷ xs) = freely o x ∷ core os xs

freely_formed : (o : List ℕ) (x : ℕ) → Taken o x → OpenChoice o (freely o x)
freely_formed [] x t = inl refl
freely_formed (n ∷ []) x t = inl refl
freely_formed (n ∷ (m ∷ o)) x t = inr (omega arith, t)

pub core_formed : (os : Options) (w : Row) → World os w → Formed os (core os w)
unfolding core
core_formed [] [] v = tt
core_formed [] (x ∷ xs) v = absurd v
core_formed (o ∷ os) [] v = absurd v
core_formed (o ∷ os) (x ∷ xs) v = (freely_formed o x v.0, core_formed os xs v.1)

freely_agrees : (o : List ℕ) (x : ℕ) → (eqb (freely o x) 0 || eqb x (freely o x)) ≡ true
freely_agrees [] x = refl
freely_agrees (n ∷ []) x = refl
freely_agrees (n ∷ (m ∷ o)) x = grind (arith, nat_tests)

pub core_contained : (os : Options) (w : Row) → World os w → contains w (core os w) ≡ true
unfolding core
core_contained [] [] v = refl
core_contained [] (x ∷ xs) v = absurd v
core_contained (o ∷ os) [] v = absurd v
core_contained (o ∷ os) (x ∷ xs) v = and_from _ _ (freely_agrees o x) (core_contained os xs v.1)

freely_decides : (o : List ℕ) (x y : ℕ) → AllByRecursion (λ n. 0 < n) o → Taken o x → Taken o y → (eqb (freely o x) 0 || eqb y (freely o x)) ≡ true → y ≡ x
freely_decides [] x y b t s h = s ∙ sym t
freely_decides (n ∷ []) x y b (inl t) (inl s) h = sym s ∙ t
freely_decides (n ∷ []) x y b (inl t) (inr s) h = absurd s
freely_decides (n ∷ []) x y b (inr t) s h = absurd t
freely_decides (n ∷ (m ∷ o)) x y b t s h = let p = all_among (λ n. 0 < n) (n ∷ (m ∷ o)) b x t in grind (arith, nat_tests)

-- only the world itself contains its row
pub core_decides : (os : Options) (w v : Row) → SoundOptions os → World os w → World os v → contains v (core os w) ≡ true → v ≡ w
unfolding core
core_decides [] [] [] b p q h = refl
core_decides [] [] (y ∷ ys) b p q h = absurd q
core_decides [] (x ∷ xs) v b p q h = absurd p
core_decides (o ∷ os) [] v b p q h = absurd p
core_decides (o ∷ os) (x ∷ xs) [] b p q h = absurd q
core_decides (o ∷ os) (x ∷ xs) (y ∷ ys) b p q h =
    let k = and_parts (eqb (freely o x) 0 || eqb y (freely o x)) (contains ys (core os xs)) h in
    ap₂ (λ (a : ℕ) (r : Row). a ∷ r) (freely_decides o x y b.0 p.0 q.0 k.0) (core_decides os xs ys b.1 p.1 q.1 k.1)
