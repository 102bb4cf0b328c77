-- One atom after another, from the lowest up.
use Rattle.std.proofs.Common.{◌≡◌, ℕ, zero, suc, ◌+◌, ◌<◌, ◌≤◌, Bool, true, false, cond, List, [], ◌∷◌, ◌++◌, map, length, get_or, take, set, replicate, is_some, Some, None, Option, sym, refl, ap, ◌∙◌, subst, ⊎_elim, arith}
use Rattle.std.specs.Option.{option_map}
use Rattle.std.proofs.lemmas.List.{take_more, take_more_set, take-map, map-set, length-map, get_or-set_other}
use Rattle.std.proofs.lemmas.Bool.{cases_eq, cond-true, cond-false}
use Rattle.rows.specs.Keeping.{and_then}
use Rattle.logic.specs.Atoms.{Lists, nothing, worked, table}
use Rattle.logic.specs.Options.{Options}
use Rattle.logic.specs.Rules.{Rule}
use Rattle.logic.proofs.Tables.{table_alike}
use Rattle.explain.specs.declared.lists.Lists as code
use Rattle.explain.specs.Explaining.{too_wide}
use Rattle.explain.specs.Lists.{lists_in}

none_there : (n : ℕ) (l : code.Lists) → lists_in l ≡ nothing → (a : ℕ) → get_or (map lists_in (replicate n l)) a nothing ≡ nothing
none_there zero l none a = refl
none_there (suc n) l none zero = none
none_there (suc n) l none (suc a) = none_there n l none a

module _ (os : Options) (rules : List Rule) (wanted : ℕ → Bool) where
  abbrev upto : ℕ → Option (List Lists)
  upto n = table 64 os rules wanted n

  module _ (n : ℕ) (t : List Lists) (is : upto n ≡ Some t) where
    next : upto (n + 1) ≡ option_map (λ e. t ++ (e ∷ [])) (cond (wanted n) (worked 64 os rules t n) (Some nothing))
    unfolding table
    next = let z : n + 1 ≡ suc n = omega arith in ap upto z ∙ ap (λ o. and_then o (λ t. option_map (λ e. t ++ (e ∷ [])) (cond (wanted n) (worked 64 os rules t n) (Some nothing)))) is

    table_work : (e : Lists) → wanted n ≡ true → worked 64 os rules t n ≡ Some e → upto (n + 1) ≡ Some (t ++ (e ∷ []))
    table_work e w p = next ∙ ap (option_map (λ e. t ++ (e ∷ []))) (cond-true _ _ _ w ∙ p)

    table_pass : wanted n ≡ false → upto (n + 1) ≡ Some (t ++ (nothing ∷ []))
    table_pass w = next ∙ ap (option_map (λ e. t ++ (e ∷ []))) (cond-false _ _ _ w)

    -- where one atom's list is too long, so is the table from there on, and that atom is told
    module _ (w : wanted n ≡ true) (wide : worked 64 os rules t n ≡ None) where
      table_stops : (k : ℕ) → n < k → (upto k ≡ None) × (n ≡ too_wide os rules wanted k)
      unfolding table too_wide
      table_stops zero l = absurd (omega arith)
      table_stops (suc k) l = ⊎_elim
          (λ (same : k ≡ n). (
            ap (λ i. upto (suc i)) same ∙ ap (λ o. and_then o (λ t. option_map (λ e. t ++ (e ∷ [])) (cond (wanted n) (worked 64 os rules t n) (Some nothing)))) is ∙ ap (option_map (λ e. t ++ (e ∷ []))) (cond-true _ _ _ w ∙ wide),
            sym (ap (λ i. cond (is_some (upto i)) i (too_wide os rules wanted i)) same ∙ ap (λ o. cond (is_some o) n (too_wide os rules wanted n)) is),
          ))
          (λ other.
          let (p, q) = table_stops k (omega arith) in (
            ap (λ o. and_then o (λ t. option_map (λ e. t ++ (e ∷ [])) (cond (wanted k) (worked 64 os rules t k) (Some nothing)))) p,
            q ∙ sym (ap (λ o. cond (is_some o) k (too_wide os rules wanted k)) p),
          ))
          (cases_eq k n)

  -- the lists of the atoms below n are the first n of ls, and past them there are none
  pub record Upto (n : ℕ) (ls : List Lists) : Type 0 where
    pub below : upto n ≡ Some (take n ls)
    pub above : (a : ℕ) → n ≤ a → get_or ls a nothing ≡ nothing

  -- at the start there are none at all
  pub upto_none : (n : ℕ) (l : code.Lists) → lists_in l ≡ nothing → Upto 0 (map lists_in (replicate n l))
  unfolding table
  upto_none n l none = record { below = refl; above = λ a _. none_there n l none a }

  module _ (n : ℕ) (lists : List code.Lists) (low : n < length lists) (u : Upto n (map lists_in lists)) where
    abbrev ls : List Lists
    ls = map lists_in lists

    size : n < length ls
    size = omega (arith, low, length-map lists lists_in)

    -- the lists of a wanted atom are written to its place
    pub upto_work : (l : code.Lists) → wanted n ≡ true → Some (lists_in l) ≡ worked 64 os rules (map lists_in (take n lists)) n → Upto (n + 1) (map lists_in (set lists n l))
    upto_work l w p =
        let e : Lists = lists_in l in
        let is = sym (p ∙ ap (λ t. worked 64 os rules t n) (sym (take-map lists_in n lists))) in
        subst (Upto (n + 1)) (sym (map-set lists_in lists n l)) (record {
          below = table_work n (take n ls) u.below e w is ∙ ap Some (sym (take_more_set ls n e size));
          above = λ a h. get_or-set_other ls n a e nothing (omega arith) ∙ u.above a (omega arith);
        })

    -- nothing stands at that of another
    pub upto_pass : wanted n ≡ false → Upto (n + 1) ls
    upto_pass w = record {
      below = table_pass n (take n ls) u.below w ∙ ap (λ e. Some (take n ls ++ (e ∷ []))) (sym (u.above n (omega arith))) ∙ ap Some (sym (take_more ls n nothing size));
      above = λ a h. u.above a (omega arith);
    }

    -- where a list of a wanted atom is too long, so is the table from there on, and that atom is told
    pub upto_stops : wanted n ≡ true → None ≡ worked 64 os rules (map lists_in (take n lists)) n → (k : ℕ) → n < k → (upto k ≡ None) × (n ≡ too_wide os rules wanted k)
    upto_stops w p k h = table_stops n (take n ls) u.below w (sym (p ∙ ap (λ t. worked 64 os rules t n) (sym (take-map lists_in n lists)))) k h

  -- a table depends only on which atoms are wanted
  pub wide_alike : (others : ℕ → Bool) (n : ℕ) → ((a : ℕ) → wanted a ≡ others a) → too_wide os rules wanted n ≡ too_wide os rules others n
  unfolding too_wide
  wide_alike others zero same = refl
  wide_alike others (suc n) same =
      ap (λ o. cond (is_some o) n (too_wide os rules wanted n)) (table_alike 64 os rules wanted others n (λ a l. same a))
      ∙ ap (cond (is_some (table 64 os rules others n)) n) (wide_alike others n same)
