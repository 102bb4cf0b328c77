-- The consistent unions of two lists.
use Rattle.std.proofs.Common.{◌≡◌, ℕ, true, ◌&&◌, List, [], ◌∷◌, Some, filter, sym, refl, subst, inl, inr, ⊎_elim}
use Rattle.std.proofs.lemmas.Bool.{and_parts, and_from}
use Rattle.rows.specs.Keeping.{covered}
use Rattle.rows.specs.Minimal.{Among}
use Rattle.rows.specs.Rows.{contains, compatible, union}
use Rattle.rows.proofs.Members.{among_left, same_tests}
use Rattle.logic.specs.Options.{Row}
use Rattle.logic.specs.Minimals.{under}
use Rattle.logic.specs.Duals.{unions, all_unions, conjoined, ConjoinedBoth}
use Rattle.logic.proofs.Bases.{Basis, Meets, meets, covers_it, kept_basis, basis_meets}
use Rattle.logic.proofs.Laws.{compatible_under, contains_union, union_parts}
use Rattle.logic.proofs.Members.{among_right, among_append, among_kept, kept_among, among_map, map_among}

-- u is the union of a row of each
abbrev pub UnionOf : List Row → List Row → Row → Type 0
UnionOf xs ys u = (a : Row) × (b : Row) × Among xs a × Among ys b × (compatible a b ≡ true) × (union a b ≡ u)

unions_to : (a b : Row) (ys : List Row) → Among ys b → compatible a b ≡ true → Among (unions a ys) (union a b)
unions_to a b ys j c = among_map (union a) (filter (compatible a) ys) b (among_kept (compatible a) ys b j c)

all_unions_to : (a b : Row) (xs ys : List Row) → Among xs a → Among ys b → compatible a b ≡ true → Among (all_unions xs ys) (union a b)
unfolding all_unions
all_unions_to a b [] ys i j c = absurd i
all_unions_to a b (x ∷ xs) ys (inl e) j c = among_left (unions x ys) (all_unions xs ys) (union a b) (subst (λ r. Among (unions r ys) (union a b)) (sym e) (unions_to a b ys j c))
all_unions_to a b (x ∷ xs) ys (inr i) j c = among_right (unions x ys) (all_unions xs ys) (union a b) (all_unions_to a b xs ys i j c)

all_unions_from : (u : Row) (xs ys : List Row) → Among (all_unions xs ys) u → UnionOf xs ys u
unfolding all_unions
all_unions_from u [] ys i = absurd i
all_unions_from u (x ∷ xs) ys i = ⊎_elim
    (λ j. let (b, k, e) = map_among (union x) (filter (compatible x) ys) u j in let (l, c) = kept_among (compatible x) ys b k in (x, b, inl refl, l, c, e))
    (λ j. let (a, b, m, k, c, e) = all_unions_from u xs ys j in (a, b, inr m, k, c, e))
    (among_append (unions x ys) (all_unions xs ys) u i)

-- a conjunction that is not refused
module _ (limit : ℕ) (xs ys zs : List Row) (h : conjoined limit xs ys ≡ Some zs) where
  pub conjoined_basis : Basis (UnionOf xs ys) zs
  conjoined_basis =
      let b = kept_basis limit (all_unions xs ys) zs h in
      record {
        sound = λ u i. all_unions_from u xs ys (b.sound u i);
        covers = λ u (x, y, i, j, c, e). b.covers u (subst (Among (all_unions xs ys)) e (all_unions_to x y xs ys i j c));
        apart = b.apart;
        ascends = b.ascends;
      }

  pub both_meet : (w : Row) → Meets xs w → Meets ys w → Meets zs w
  both_meet w (a, i, p) (b, j, q) =
      let c = compatible_under w a b p q in
      basis_meets conjoined_basis w (union a b) (a, b, i, j, c, refl) (contains_union a b c w p q)

  pub meet_both : (w : Row) → Meets zs w → Meets xs w × Meets ys w
  meet_both w (u, k, d) =
      let (a, b, i, j, c, e) = conjoined_basis.sound u k in
      let p = union_parts a b c w (subst (λ v. contains w v ≡ true) (sym e) d) in
      ((a, i, p.0), (b, j, p.1))

pub conjoined_both : ConjoinedBoth
conjoined_both limit xs ys zs w h = same_tests (covered under zs w) (covered under xs w && covered under ys w)
    (λ t. let (a, b) = meet_both limit xs ys zs h w (meets zs w t) in and_from _ _ (covers_it xs w a) (covers_it ys w b))
    (λ t. let (a, b) = and_parts (covered under xs w) _ t in covers_it zs w (both_meet limit xs ys zs h w (meets xs w a) (meets ys w b)))
