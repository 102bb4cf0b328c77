-- Rows that are appended one after another, each with one choice alone.
use Rattle.std.proofs.Common.{◌≡◌, ℕ, ◌<◌, ◌≤◌, Bool, true, false, cond, List, [], ◌∷◌, ◌++◌, length, filter, Ok, Err, sym, ap, ◌∙◌, subst, arith}
use Rattle.std.proofs.lemmas.List.{append_assoc, append-nil, length-append}
use Rattle.rows.specs.Lending.{items, room, SameLoan, Extended}
use Rattle.rows.specs.declared.lent.Lent.{Lent}
use Rattle.rows.specs.declared.row.Row.{Row}
use Rattle.rows.proofs.Lends.{grown_none, grown_more, grown_refused}
use Rattle.logic.specs.Options as logic
use Rattle.explain.specs.Lists.{alone_rows, lone}

-- some rows were appended, and with those of the numbers that pass they are all
abbrev pub Begun : Lent Row → Lent Row → ℕ → (ℕ → Bool) → List ℕ → List Row → Type 0
Begun a b place p ns all = (done : List Row) × Extended a b done × (done ++ alone_rows place (filter p ns) ≡ all)

abbrev pub Refused : Lent Row → Lent Row → List Row → Type 0
Refused a b all = SameLoan a b × (room a < length (items a ++ all))

module _ (place : ℕ) (p : ℕ → Bool) (all : List Row) (a b : Lent Row) where
  pub begun_none : (ns : List ℕ) → alone_rows place (filter p ns) ≡ all → Begun a a place p ns all
  begun_none ns is = ([], grown_none a, is)

  pub begun_all : (ns : List ℕ) → ns ≡ [] → Begun a b place p ns all → Extended a b all
  begun_all ns none (done, ext, is) = subst (Extended a b) (sym (append-nil done) ∙ ap (λ ks. done ++ alone_rows place (filter p ks)) (sym none) ∙ is) ext

  module _ (n : ℕ) (ns ms : List ℕ) (next : ns ≡ n ∷ ms) where
    pub begun_skip : p n ≡ false → Begun a b place p ns all → Begun a b place p ms all
    begun_skip e (done, ext, is) = (done, ext, ap (λ rows. done ++ rows) (ap (λ t. alone_rows place (cond t (n ∷ filter p ms) (filter p ms))) (sym e) ∙ ap (λ ks. alone_rows place (filter p ks)) (sym next)) ∙ is)

    module _ (c : Lent Row) (row : Row) (alone : row.choices ≡ lone place n) (e : p n ≡ true) where
      first : (done : List Row) → done ++ (row ∷ alone_rows place (filter p ms)) ≡ done ++ alone_rows place (filter p ns)
      first done =
          ap (λ (cs : logic.Row). done ++ (record { choices = cs } ∷ alone_rows place (filter p ms))) alone
          ∙ ap (λ t. done ++ alone_rows place (cond t (n ∷ filter p ms) (filter p ms))) (sym e) ∙ ap (λ ks. done ++ alone_rows place (filter p ks)) (sym next)

      pub begun_next : Extended b c (row ∷ []) → Begun a b place p ns all → Begun a c place p ms all
      begun_next more (done, ext, is) = (
        done ++ (row ∷ []),
        grown_more {E = Unit {0}} a b c done (row ∷ []) (Ok tt) ext more,
        append_assoc done (row ∷ []) (alone_rows place (filter p ms)) ∙ first done ∙ is,
      )

      pub begun_full : Refused b c (row ∷ []) → Begun a b place p ns all → Refused a c all
      begun_full full (done, ext, is) =
          subst (Refused a c) (append_assoc done (row ∷ []) (alone_rows place (filter p ms)) ∙ first done ∙ is)
          (grown_refused a c (done ++ (row ∷ [])) (alone_rows place (filter p ms)) (grown_more {E = Unit {0}} a b c done (row ∷ []) (Err tt) ext full))

-- at most as many pass as there are
pub alone_few : (place : ℕ) (p : ℕ → Bool) (ns : List ℕ) → length (alone_rows place (filter p ns)) ≤ length ns
alone_few place p [] = omega arith
alone_few place p (n ∷ ns) = go (p n) (alone_few place p ns)
  where
    go : (b : Bool) → length (alone_rows place (filter p ns)) ≤ length ns → length (alone_rows place (cond b (n ∷ filter p ns) (filter p ns))) ≤ length (n ∷ ns)
    go true h = omega arith
    go false h = omega arith

-- a list that was empty: what is appended is all of it, and it is refused only where it is too long
module _ (a b : Lent Row) (empty : items a ≡ []) (all : List Row) where
  pub alone_items : Extended a b all → items b ≡ all
  alone_items ext = ext.listed ∙ ap (λ l. l ++ all) empty

  pub never_full : {n : ℕ} → n ≤ room a → length all ≤ n → Refused a b all → ⊥
  never_full {n} space few full = let is = ap length empty in omega (arith, full.1, length-append (items a) all)
