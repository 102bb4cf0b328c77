-- Work that is refused only at its limit, step by step.
use Rattle.std.proofs.Common.{◌≡◌, ℕ, zero, suc, ◌+◌, ◌≤◌, Bool, true, false, cond, leb, List, [], ◌∷◌, ◌++◌, length, Some, None, Option, refl, ap, ◌∙◌, ⊎_elim, arith}
use Rattle.std.specs.Option.{option_map, option_zip}
use Rattle.std.proofs.lemmas.Bool.{cond-true, leb-true, le-leb}
use Rattle.rows.specs.Keeping.{covered, spared, placed, within, and_then}
use Rattle.rows.specs.Rows.{earlier}
use Rattle.rows.proofs.Members.{at_cond}
use Rattle.logic.specs.Options.{Row, Options}
use Rattle.logic.specs.Minimals.{under}
use Rattle.logic.specs.Rules.{Literal, Rule, rules_for}
use Rattle.logic.specs.Duals.{empty, contrary, put_rows, all_unions, conjoined, duals_from, duals}
use Rattle.logic.specs.Atoms.{Lists, nothing, lists_of, body_from, bodies_from, negated_list, worked, table}
use Rattle.logic.specs.Limits.{LimitedOnly, DualsLimited, TableLimited}
use Rattle.logic.proofs.Bases.{none_some, then_some, mapped_some, zipped_some}

-- no work, one piece after another, and two pieces beside each other
given : {A : Type 0} (x : A) → LimitedOnly (λ _. Some x)
given x = record { stays = λ _ _ _ _ h. h; enough = (0, x, refl) }

next : {V : Type 0} {f : ℕ → Option (List V)} {g : ℕ → List V → Option (List V)} → LimitedOnly f → ((ys : List V) → LimitedOnly (λ limit. g limit ys)) → LimitedOnly (λ limit. and_then (f limit) (g limit))
next {V} {f} {g} p q = record {
  stays = λ limit more zs le h.
      let (ys, i, j) = then_some (f limit) (g limit) zs h in
      ap (λ o. and_then o (g more)) (p.stays limit more ys le i) ∙ (q ys).stays limit more zs le j;
  enough =
      let (l, ys, h) = p.enough in
      let (m, zs, k) = (q ys).enough in
      (l + m, zs, ap (λ o. and_then o (g (l + m))) (p.stays l (l + m) ys (omega arith) h) ∙ (q ys).stays m (l + m) zs (omega arith) k);
}

made : {A B : Type 0} {f : ℕ → Option A} (g : A → B) → LimitedOnly f → LimitedOnly (λ limit. option_map g (f limit))
made {A} {B} {f} g p = record {
  stays = λ limit more y le h. let (x, i, j) = mapped_some g (f limit) y h in ap (option_map g) (p.stays limit more x le i) ∙ ap Some j;
  enough = let (l, x, h) = p.enough in (l, g x, ap (option_map g) h);
}

beside : {A B : Type 0} {f : ℕ → Option A} {g : ℕ → Option B} → LimitedOnly f → LimitedOnly g → LimitedOnly (λ limit. option_zip (f limit) (g limit))
beside {A} {B} {f} {g} p q = record {
  stays = λ limit more z le h.
      let (i, j) = zipped_some (f limit) (g limit) z h in
      ap (λ o. option_zip o (g more)) (p.stays limit more z.0 le i) ∙ ap (option_zip (Some z.0)) (q.stays limit more z.1 le j);
  enough =
      let (l, x, h) = p.enough in
      let (m, y, k) = q.enough in
      (l + m, (x, y), ap (λ o. option_zip o (g (l + m))) (p.stays l (l + m) x (omega arith) h) ∙ ap (option_zip (Some x)) (q.stays m (l + m) y (omega arith) k));
}

-- a put, and a run of puts
within_limited : {V : Type 0} (ys : List V) → LimitedOnly (λ limit. within limit ys)
within_limited ys = record {
  stays = λ limit more zs le h. ⊎_elim
      (λ w. let fits : length ys ≤ more = omega (arith, leb-true (length ys) limit w.0) in cond-true (leb (length ys) more) _ _ (le-leb _ _ fits) ∙ w.1)
      (λ w. absurd (none_some w.1))
      (at_cond (leb (length ys) limit) (Some ys) None (λ o. o ≡ Some zs) h);
  enough = (length ys, ys, cond-true (leb (length ys) (length ys)) _ _ (le-leb _ _ (omega arith)));
}

either : {A : Type 0} {f g : ℕ → Option A} (b : Bool) → LimitedOnly f → LimitedOnly g → LimitedOnly (λ limit. cond b (f limit) (g limit))
either true p q = p
either false p q = q

run_limited : (held rows : List Row) → LimitedOnly (λ limit. put_rows limit held rows)
run_limited held [] = given held
run_limited held (r ∷ rows) = next (either (covered under held r) (given held) (within_limited (placed earlier r (spared under r held)))) (λ next. run_limited next rows)

conjoined_limited : (xs ys : List Row) → LimitedOnly (λ limit. conjoined limit xs ys)
conjoined_limited xs ys = run_limited [] (all_unions xs ys)

duals_from_limited : (os : Options) (rows ds : List Row) → LimitedOnly (λ limit. duals_from limit os ds rows)
unfolding duals_from
duals_from_limited os [] ds = given ds
duals_from_limited os (m ∷ rows) ds = next (conjoined_limited ds (contrary os m)) (λ es. duals_from_limited os rows es)

pub duals_limited : DualsLimited
unfolding duals
duals_limited os rows = duals_from_limited os rows (empty os ∷ [])

-- the table
body_limited : (os : Options) (t : List Lists) (ls : List Literal) (rows : List Row) → LimitedOnly (λ limit. body_from limit os t rows ls)
unfolding body_from
body_limited os t [] rows = given rows
body_limited os t (l ∷ ls) rows = next (conjoined_limited rows (lists_of os t l).own) (λ more. body_limited os t ls more)

bodies_limited : (os : Options) (t : List Lists) (rs : List Rule) (held : List Row) → LimitedOnly (λ limit. bodies_from limit os t held rs)
unfolding bodies_from
bodies_limited os t [] held = given held
bodies_limited os t (r ∷ rs) held = next (body_limited os t r.body (empty os ∷ [])) (λ rows. next (run_limited held rows) (λ more. bodies_limited os t rs more))

worked_limited : (os : Options) (rules : List Rule) (t : List Lists) (a : ℕ) → LimitedOnly (λ limit. worked limit os rules t a)
unfolding worked
worked_limited os rules t a = made _ (beside (next negated (duals_limited os)) negated)
  where
    negated : LimitedOnly (λ limit. negated_list limit os rules t a)
    negated = next (bodies_limited os t (rules_for rules a) []) (duals_limited os)

pub table_limited : TableLimited
unfolding table
table_limited os rules wanted zero = given []
table_limited os rules wanted (suc n) =
    next (table_limited os rules wanted n) (λ t. made (λ (e : Lists). t ++ (e ∷ [])) (either (wanted n) (worked_limited os rules t n) (given nothing)))
