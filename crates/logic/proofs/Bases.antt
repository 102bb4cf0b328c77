-- A basis of a property: what a list of its minimal rows is, said so that it can be carried from step to step.
use Rattle.std.proofs.Common.{◌≡◌, ℕ, true, List, [], ◌∷◌, Some, None, Option, refl, ap, ◌∙◌, subst, arith}
use Rattle.std.specs.Option.{option_map, option_zip}
use Rattle.std.proofs.lemmas.Bool.{both_ways}
use Rattle.rows.specs.Keeping.{covered, and_then}
use Rattle.rows.specs.Minimal.{Among, Ascending, Once}
use Rattle.rows.specs.Rows.{contains, earlier}
use Rattle.rows.proofs.Kept.{run_minimal, run_covers}
use Rattle.rows.proofs.Members.{all_from_among, covered_some, covered_by}
use Rattle.rows.specs.RowLaws.{contains_itself, contains_through, contains_same, earlier_apart}
use Rattle.logic.specs.Options.{Row}
use Rattle.logic.specs.Minimals.{under, MinimalsOf}
use Rattle.logic.specs.Duals.{put_rows}
use Rattle.logic.proofs.Laws.{orders}

-- what a run of steps that is not refused passed through
pub some_same : {X : Type 0} {x y : X} → Some x ≡ Some y → x ≡ y
some_same h = cc

pub none_some : {X : Type 0} {x : X} → ◌≡◌ {A = Option X} None (Some x) → ⊥
none_some h = let z : ◌≡◌ {A = ℕ} 0 1 = cc in omega arith

pub then_some : {V : Type 0} (o : Option (List V)) (next : List V → Option (List V)) (zs : List V) → and_then o next ≡ Some zs → (ys : List V) × (o ≡ Some ys) × (next ys ≡ Some zs)
then_some (Some ys) next zs h = (ys, refl, h)
then_some None next zs h = absurd (none_some h)

pub mapped_some : {X Y : Type 0} (f : X → Y) (o : Option X) (y : Y) → option_map f o ≡ Some y → (x : X) × (o ≡ Some x) × (f x ≡ y)
mapped_some f (Some x) y h = (x, refl, some_same h)
mapped_some f None y h = absurd (none_some h)

pub zipped_some : {X Y : Type 0} (o : Option X) (p : Option Y) (z : X × Y) → option_zip o p ≡ Some z → (o ≡ Some z.0) × (p ≡ Some z.1)
zipped_some None p z h = absurd (none_some h)
zipped_some (Some x) None z h = absurd (none_some h)
zipped_some {X} {Y} (Some x) (Some y) z h =
    let e : (x, y) ≡ z = some_same h in
    (ap (λ (q : X × Y). Some q.0) e, ap (λ (q : X × Y). Some q.1) e)

-- one of the rows is contained in w
abbrev pub Meets : List Row → Row → Type 0
Meets rows w = (h : Row) × Among rows h × (contains w h ≡ true)

pub meets : (rows : List Row) (w : Row) → covered under rows w ≡ true → Meets rows w
meets rows w h = covered_some under w rows h

pub covers_it : (rows : List Row) (w : Row) → Meets rows w → covered under rows w ≡ true
covers_it rows w m = covered_by under w rows m.0 m.1 m.2

-- the rows have P, each row with P contains one of them, none contains another, and they ascend
pub record Basis (P : Row → Type 0) (rows : List Row) : Type 0 where
  pub sound : (h : Row) → Among rows h → P h
  pub covers : (r : Row) → P r → Meets rows r
  pub apart : (g h : Row) → Among rows g → Among rows h → contains g h ≡ true → h ≡ g
  pub ascends : Ascending earlier rows

ascends_once : (rows : List Row) → Ascending earlier rows → Once rows
ascends_once [] a = tt
ascends_once (r ∷ rows) a = (λ i. both_ways _ (earlier_apart r) (a.0 r i), ascends_once rows a.1)

pub minimals : {P : Row → Type 0} {rows : List Row} → Basis P rows → MinimalsOf P rows
minimals {P} {rows} b = record {
  members = λ r. (
    λ i. (
      b.sound r i,
      λ s p c.
          let (h, j, d) = b.covers s p in
          let e : h ≡ r = b.apart r h i j (contains_through h s r d c) in
          contains_same s r c (subst (λ x. contains s x ≡ true) e d),
    ),
    λ m. let (h, j, d) = b.covers r m.0 in subst (Among rows) (m.1 h (b.sound h j) d) j,
  );
  once = ascends_once rows b.ascends;
  ascending = b.ascends;
}

-- a basis of P is one of what says the same
pub basis_like : {P Q : Row → Type 0} {rows : List Row} → ((r : Row) → P r → Q r) → ((r : Row) → Q r → P r) → Basis P rows → Basis Q rows
basis_like f g b = record { sound = λ h i. f h (b.sound h i); covers = λ r q. b.covers r (g r q); apart = b.apart; ascends = b.ascends }

-- a basis meets what contains a row with P
pub basis_meets : {P : Row → Type 0} {rows : List Row} → Basis P rows → (w s : Row) → P s → contains w s ≡ true → Meets rows w
basis_meets b w s p d = let (h, i, c) = b.covers s p in (h, i, contains_through h s w c d)

-- what a run keeps is a basis of what was put
pub kept_basis : (limit : ℕ) (put rows : List Row) → put_rows limit [] put ≡ Some rows → Basis (Among put) rows
kept_basis limit put rows h =
    let valid = all_from_among (λ (r : Row). true ≡ true) put (λ _ _. refl) in
    let m = run_minimal orders limit put rows valid h in
    let c = run_covers orders limit put rows valid h in
    record {
      sound = λ r i. ((m.members r).0 i).0;
      covers = λ r i. meets rows r (c r refl ∙ covers_it put r (r, i, contains_itself r));
      apart = λ r s i j d. ((m.members r).0 i).1 s ((m.members s).0 j).0 d;
      ascends = m.ascending;
    }
