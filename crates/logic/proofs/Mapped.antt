-- A run over values is the run over what stands in them, where that is all that the two orders see.
use Rattle.std.proofs.Common.{◌≡◌, ℕ, Bool, true, false, cond, not, ◌||◌, leb, List, [], ◌∷◌, map, length, Some, None, Option, sym, refl, ap, ◌∙◌}
use Rattle.std.specs.Option.{option_map}
use Rattle.std.proofs.lemmas.List.{length-map}
use Rattle.rows.specs.Keeping.{covered, spared, placed, within, kept, and_then, kept_all}
use Rattle.rows.specs.Worlds.{inside, sooner}
use Rattle.rows.specs.Rows.{earlier}
use Rattle.rows.specs.declared.row.Row.{Row}
use Rattle.logic.specs.Minimals.{under}
use Rattle.logic.specs.Duals.{put_rows}

module _ {A B : Type 0} (f : A → B) (below before : B → B → Bool) where
  abbrev lower : A → A → Bool
  lower x y = below (f x) (f y)

  abbrev sooner_of : A → A → Bool
  sooner_of x y = before (f x) (f y)

  covered_map : (ys : List A) (x : A) → covered lower ys x ≡ covered below (map f ys) (f x)
  covered_map [] x = refl
  covered_map (y ∷ ys) x = ap (λ b. below (f y) (f x) || b) (covered_map ys x)

  spared_map : (x : A) (ys : List A) → map f (spared lower x ys) ≡ spared below (f x) (map f ys)
  spared_map x [] = refl
  spared_map x (y ∷ ys) = go (not (below (f x) (f y))) (spared_map x ys)
    where
      go : (b : Bool) → map f (spared lower x ys) ≡ spared below (f x) (map f ys)
          → map f (cond b (y ∷ spared lower x ys) (spared lower x ys)) ≡ cond b (f y ∷ spared below (f x) (map f ys)) (spared below (f x) (map f ys))
      go true e = ap (λ l. f y ∷ l) e
      go false e = e

  placed_map : (x : A) (ys : List A) → map f (placed sooner_of x ys) ≡ placed before (f x) (map f ys)
  placed_map x [] = refl
  placed_map x (y ∷ ys) = go (before (f x) (f y)) (placed_map x ys)
    where
      go : (b : Bool) → map f (placed sooner_of x ys) ≡ placed before (f x) (map f ys)
          → map f (cond b (x ∷ y ∷ ys) (y ∷ placed sooner_of x ys)) ≡ cond b (f x ∷ f y ∷ map f ys) (f y ∷ placed before (f x) (map f ys))
      go true e = refl
      go false e = ap (λ l. f y ∷ l) e

  mapped_cond : (b : Bool) (o p : Option (List A)) → option_map (map f) (cond b o p) ≡ cond b (option_map (map f) o) (option_map (map f) p)
  mapped_cond true o p = refl
  mapped_cond false o p = refl

  within_map : (limit : ℕ) (ys : List A) → option_map (map f) (within limit ys) ≡ within limit (map f ys)
  within_map limit ys = mapped_cond (leb (length ys) limit) (Some ys) None ∙ ap (λ n. cond (leb n limit) (Some (map f ys)) None) (sym (length-map ys f))

  pub kept_map : (limit : ℕ) (ys : List A) (x : A) → option_map (map f) (kept lower sooner_of limit ys x) ≡ kept below before limit (map f ys) (f x)
  kept_map limit ys x =
      mapped_cond (covered lower ys x) (Some ys) (within limit (placed sooner_of x (spared lower x ys)))
      ∙ ap (λ b. cond b (Some (map f ys)) (option_map (map f) (within limit (placed sooner_of x (spared lower x ys))))) (covered_map ys x)
      ∙ ap (λ o. cond (covered below (map f ys) (f x)) (Some (map f ys)) o)
      (within_map limit (placed sooner_of x (spared lower x ys)) ∙ ap (within limit) (placed_map x (spared lower x ys) ∙ ap (placed before (f x)) (spared_map x ys)))

  pub kept_all_map : (limit : ℕ) (ys xs : List A) → option_map (map f) (kept_all lower sooner_of limit ys xs) ≡ kept_all below before limit (map f ys) (map f xs)
  kept_all_map limit ys [] = refl
  kept_all_map limit ys (x ∷ xs) = go (kept lower sooner_of limit ys x) (λ zs. kept_all_map limit zs xs) ∙ ap (λ o. and_then o (λ zs. kept_all below before limit zs (map f xs))) (kept_map limit ys x)
    where
      go : (o : Option (List A)) → ((zs : List A) → option_map (map f) (kept_all lower sooner_of limit zs xs) ≡ kept_all below before limit (map f zs) (map f xs))
          → option_map (map f) (and_then o (λ zs. kept_all lower sooner_of limit zs xs)) ≡ and_then (option_map (map f) o) (λ zs. kept_all below before limit zs (map f xs))
      go (Some zs) e = e zs
      go None e = refl

-- a list of structs is kept as the list of their choices
pub choices_kept : (limit : ℕ) (held rows : List Row) → option_map (map (λ (r : Row). r.choices)) (kept_all inside sooner limit held rows) ≡ put_rows limit (map (λ (r : Row). r.choices) held) (map (λ (r : Row). r.choices) rows)
choices_kept limit held rows = kept_all_map (λ (r : Row). r.choices) under earlier limit held rows

-- and so is one put
pub choices_put : (limit : ℕ) (held : List Row) (row : Row) → option_map (map (λ (r : Row). r.choices)) (kept inside sooner limit held row) ≡ kept under earlier limit (map (λ (r : Row). r.choices) held) row.choices
choices_put limit held row = kept_map (λ (r : Row). r.choices) under earlier limit held row
