-- The choices contrary to a row, appended place by place.
use Rattle.std.proofs.Common.{◌≡◌, ℕ, suc, ◌+◌, ◌*◌, ◌<◌, ◌≤◌, List, [], ◌++◌, length, Ok, Err, sym, refl, ap, ◌∙◌, arith}
use Rattle.std.proofs.lemmas.List.{append-nil, length-append, map-append}
use Rattle.rows.specs.Lending.{items, room, Extended}
use Rattle.rows.specs.declared.lent.Lent.{Lent}
use Rattle.rows.specs.declared.row.Row.{Row}
use Rattle.rows.proofs.Lends.{grown_none, grown_more}
use Rattle.logic.specs.Duals.{contrary_at, contrary_below}
use Rattle.logic.specs.Options as logic
use Rattle.explain.specs.Lists.{as_lists}
use Rattle.explain.proofs.Appends.{Refused, never_full, alone_items}

module _ (os : logic.Options) (r : logic.Row) (a b : Lent Row) where
  -- the contraries at the first n places were appended
  abbrev pub Counted : ℕ → Type 0
  Counted n = (done : List Row) × Extended a b done × (as_lists done ≡ contrary_below os r n) × (length done ≤ 8 * n)

module _ (os : logic.Options) (r : logic.Row) (a : Lent Row) where
  pub counted_none : Counted os r a a 0
  unfolding contrary_below
  counted_none = ([], grown_none a, refl, omega arith)

  module _ (b : Lent Row) (n : ℕ) where
    next : contrary_below os r (n + 1) ≡ contrary_below os r n ++ contrary_at os r n
    unfolding contrary_below
    next = let e : n + 1 ≡ suc n = omega arith in ap (contrary_below os r) e

    pub counted_same : contrary_at os r n ≡ [] → Counted os r a b n → Counted os r a b (n + 1)
    counted_same none (done, ext, is, few) = (done, ext, is ∙ sym (next ∙ ap (λ l. contrary_below os r n ++ l) none ∙ append-nil (contrary_below os r n)), omega arith)

    module _ (c : Lent Row) (more : List Row) (few : length more ≤ 8) where
      pub counted_more : contrary_at os r n ≡ as_lists more → Extended b c more → Counted os r a b n → Counted os r a c (n + 1)
      counted_more here ext (done, first, is, some) = (
        done ++ more,
        grown_more {E = Unit {0}} a b c done more (Ok tt) first ext,
        map-append (λ (r : Row). r.choices) done more ∙ ap (λ l. l ++ as_lists more) is ∙ sym (next ∙ ap (λ l. contrary_below os r n ++ l) here),
        omega (arith, length-append done more),
      )

      pub counted_full : items a ≡ [] → 128 ≤ room a → n < 16 → Refused b c more → Counted os r a b n → ⊥
      counted_full empty space low full (done, first, is, some) =
          never_full a c empty (done ++ more) space (omega (arith, length-append done more)) (grown_more {E = Unit {0}} a b c done more (Err tt) first full)

    pub counted_all : items a ≡ [] → n ≡ 16 → Counted os r a b n → as_lists (items b) ≡ contrary_below os r 16
    counted_all empty all (done, ext, is, few) = ap as_lists (alone_items a b empty done ext) ∙ is ∙ ap (contrary_below os r) all
