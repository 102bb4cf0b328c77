-- Unions that are put one after another: what code keeps of rows is what the definitions keep of lists.
use Rattle.std.proofs.Common.{◌≡◌, ℕ, ◌+◌, ◌<◌, ◌≤◌, Bool, true, false, cond, List, [], ◌∷◌, ◌++◌, map, length, get_or, drop, Some, None, Ok, Err, filter, Option, Result, sym, refl, ap, ◌∙◌, arith}
use Rattle.std.specs.Option.{option_map}
use Rattle.std.proofs.lemmas.List.{at_drop_more, at_drop_all}
use Rattle.rows.specs.Keeping.{kept, and_then, told}
use Rattle.rows.specs.Lending.{items, room, SameLoan, Grown}
use Rattle.rows.specs.Rows.{compatible, union, earlier}
use Rattle.rows.specs.Worlds.{inside, sooner}
use Rattle.rows.specs.declared.lent.Lent.{Lent}
use Rattle.rows.specs.declared.list.Full.{Full}
use Rattle.rows.specs.declared.row.Row.{Row}
use Rattle.rows.proofs.Kept.{kept_all_append}
use Rattle.logic.specs.Minimals.{under}
use Rattle.logic.specs.Duals.{put_rows, unions, all_unions, conjoined, contrary, duals_from}
use Rattle.logic.specs.Options as logic
use Rattle.logic.specs.Options.{Options}
use Rattle.logic.proofs.Mapped.{choices_put}
use Rattle.explain.specs.Lists.{as_lists}

-- what stands past the end of a list of rows
abbrev pub no_row : Row
no_row = record { choices = [] }

-- one put, as code answers it
put_one : (limit room : ℕ) (held : List Row) (x : Row) (u : logic.Row) (o : Option (List Row)) → room ≡ limit → x.choices ≡ u → o ≡ kept inside sooner room held x → option_map as_lists o ≡ kept under earlier limit (as_lists held) u
put_one limit room held x u o same is h =
    ap (option_map as_lists) h ∙ choices_put room held x ∙ ap (λ n. kept under earlier n (as_lists held) x.choices) same ∙ ap (kept under earlier limit (as_lists held)) is

unions_cons : (a y : logic.Row) (ys : List logic.Row) (b : Bool) → compatible a y ≡ b → unions a (y ∷ ys) ≡ cond b (union a y ∷ []) [] ++ unions a ys
unions_cons a y ys b e = ap (λ t. map (union a) (cond t (y ∷ filter (compatible a) ys) (filter (compatible a) ys))) e ∙ go b
  where
    go : (b : Bool) → map (union a) (cond b (y ∷ filter (compatible a) ys) (filter (compatible a) ys)) ≡ cond b (union a y ∷ []) [] ++ unions a ys
    go true = refl
    go false = refl

-- the turns of the loop over the other rows
module _ (limit : ℕ) (a : logic.Row) (others : List Row) (i : ℕ) (h : i < length others) (held : List Row) where
  abbrev here : logic.Row
  here = (get_or others i no_row).choices

  abbrev left : ℕ → List logic.Row
  left n = unions a (as_lists (drop n others))

  step : (b : Bool) → compatible a here ≡ b → left i ≡ cond b (union a here ∷ []) [] ++ left (i + 1)
  step b e = at_drop_more (λ rows. unions a (as_lists rows)) others i no_row h ∙ unions_cons a here (as_lists (drop (i + 1) others)) b e

  pub unions_skip : compatible a here ≡ false → put_rows limit (as_lists held) (left (i + 1)) ≡ put_rows limit (as_lists held) (left i)
  unions_skip e = ap (put_rows limit (as_lists held)) (sym (step false e))

  module _ (room : ℕ) (x : Row) (same : room ≡ limit) (is : x.choices ≡ union a here) (e : compatible a here ≡ true) where
    put_next : (o : Option (List Row)) → o ≡ kept inside sooner room held x → and_then (option_map as_lists o) (λ zs. put_rows limit zs (left (i + 1))) ≡ put_rows limit (as_lists held) (left i)
    put_next o p = ap (λ q. and_then q (λ zs. put_rows limit zs (left (i + 1)))) (put_one limit room held x (union a here) o same is p) ∙ ap (put_rows limit (as_lists held)) (sym (step true e))

    pub unions_put : (next : List Row) → Some next ≡ kept inside sooner room held x → put_rows limit (as_lists next) (left (i + 1)) ≡ put_rows limit (as_lists held) (left i)
    unions_put next p = put_next (Some next) p

    pub unions_stop : None ≡ kept inside sooner room held x → None ≡ put_rows limit (as_lists held) (left i)
    unions_stop p = put_next None p

-- the turns of the loop over the rows that come first
module _ (limit : ℕ) (rows : List Row) (ys held : List logic.Row) where
  abbrev rest : ℕ → List logic.Row
  rest n = all_unions (as_lists (drop n rows)) ys

  -- no row is left
  pub rows_all : (n : ℕ) → length rows ≤ n → put_rows limit held (rest n) ≡ Some held
  unfolding all_unions
  rows_all n l = at_drop_all (λ rs. put_rows limit held (all_unions (as_lists rs) ys)) rows n l

  module _ (i : ℕ) (h : i < length rows) where
    abbrev row : logic.Row
    row = (get_or rows i no_row).choices

    split : put_rows limit held (rest i) ≡ and_then (put_rows limit held (unions row ys)) (λ zs. put_rows limit zs (rest (i + 1)))
    unfolding all_unions
    split = ap (put_rows limit held) (at_drop_more (λ rs. all_unions (as_lists rs) ys) rows i no_row h) ∙ kept_all_append under earlier limit held (unions row ys) (rest (i + 1))

    module _ (room : ℕ) (same : room ≡ limit) where
      onward : (o : Option (List logic.Row)) → o ≡ put_rows room held (unions row ys) → and_then o (λ zs. put_rows limit zs (rest (i + 1))) ≡ put_rows limit held (rest i)
      onward o p = ap (λ q. and_then q (λ zs. put_rows limit zs (rest (i + 1)))) (p ∙ ap (λ n. put_rows n held (unions row ys)) same) ∙ sym split

      pub rows_put : (next : List logic.Row) → Some next ≡ put_rows room held (unions row ys) → put_rows limit next (rest (i + 1)) ≡ put_rows limit held (rest i)
      rows_put next p = onward (Some next) p

      pub rows_stop : None ≡ put_rows room held (unions row ys) → None ≡ put_rows limit held (rest i)
      rows_stop p = onward None p

-- a list that is cleared and filled again, where what fills it is no more than its room
pub refilled : (before cleared after : Lent Row) (rows : List Row) (r : Result Unit Full) → SameLoan before cleared → items cleared ≡ [] → length rows ≤ room before → Grown cleared after rows r
    → (told r (as_lists (items after)) ≡ Some (as_lists rows)) × SameLoan before after
refilled before cleared after rows (Ok u) loan empty fits grown =
    (ap Some (ap as_lists (grown.listed ∙ ap (λ l. l ++ rows) empty)), record { lender = grown.loan.lender ∙ loan.lender; size = grown.loan.size ∙ loan.size })
refilled before cleared after rows (Err e) loan empty fits grown = absurd (omega (arith, grown.1, ap length (ap (λ l. l ++ rows) empty), loan.size))

-- the turns of the loop over the members whose duals are sought
module _ (limit : ℕ) (os : Options) (members : List Row) (i : ℕ) (ds : List logic.Row) where
  abbrev later : ℕ → List logic.Row
  later n = as_lists (drop n members)

  pub duals_all : length members ≤ i → duals_from limit os ds (later i) ≡ Some ds
  unfolding duals_from
  duals_all l = at_drop_all (λ rows. duals_from limit os ds (as_lists rows)) members i l

  module _ (h : i < length members) (cs : List logic.Row) (are : cs ≡ contrary os (get_or members i no_row).choices) where
    next_duals : (o : Option (List logic.Row)) → o ≡ conjoined limit ds cs → and_then o (λ es. duals_from limit os es (later (i + 1))) ≡ duals_from limit os ds (later i)
    unfolding duals_from
    next_duals o p =
        ap (λ q. and_then q (λ es. duals_from limit os es (later (i + 1)))) (p ∙ ap (conjoined limit ds) are)
        ∙ sym (at_drop_more (λ rows. duals_from limit os ds (as_lists rows)) members i no_row h)

    pub duals_more : (es : List logic.Row) → Some es ≡ conjoined limit ds cs → duals_from limit os es (later (i + 1)) ≡ duals_from limit os ds (later i)
    duals_more es p = next_duals (Some es) p

    pub duals_stop : None ≡ conjoined limit ds cs → None ≡ duals_from limit os ds (later i)
    duals_stop p = next_duals None p
