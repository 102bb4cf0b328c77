-- What a world may take at one place of a model, and the rows that are made of it.
use Rattle.std.proofs.Common.{◌≡◌, ℕ, ◌≤◌, Bool, not, cond, eqb, ◌≢◌, ◌⊎◌, inl, inr, List, [], ◌∷◌, map, length, get_or, set, replicate, filter, sym, refl, ap, ◌∙◌, ⊎_elim, arith}
use Rattle.std.proofs.lemmas.List.{get_or_past}
use Rattle.std.proofs.lemmas.Bool.{cases_lt, cases_eq, cond-true, cond-false, eq-eqb, ne_eqb}
use Rattle.std.proofs.lemmas.Bool.Decides.{nat_tests}
use Rattle.std.proofs.lemmas.List.FromFn.{length-range_with_len}
use Rattle.logic.specs.Atoms.{rows_at}
use Rattle.logic.specs.Duals.{empty, others, contrary_at}
use Rattle.logic.specs.Options.{Row, Options}
use Rattle.model.specs.declared.model.Model.{Model}
use Rattle.model.specs.declared.suppositions.Suppositions.{Suppositions}
use Rattle.model.specs.Meaning.{up_to, options_at}
use Rattle.model.specs.Models.{alternatives, sizes}
use Rattle.model.proofs.Tables.{nowhere, whole_at, sizes_at, sizes_count}
use Rattle.explain.specs.Lists.{as_lists, lone, alone_rows}
use Rattle.explain.specs.Options.{options}
use Rattle.explain.proofs.Ranges.{up_to_counting}
use Rattle.explain.proofs.OptionLaws.{length_options, options_there, options_past}

module _ (m : Model) (s : Suppositions) where
  pub options_length : length (options m s) ≡ 16
  unfolding options
  options_length = length_options (sizes (alternatives m)) s.choices 16

  pub empty_is : empty (options m s) ≡ replicate 16 0
  empty_is = ap (λ n. replicate n 0) options_length

  module _ (place : ℕ) (past : 16 ≤ place → get_or s.choices place 0 ≡ 0) where
    abbrev size : ℕ
    size = get_or (sizes (alternatives m)) place 0

    abbrev supposed : ℕ
    supposed = get_or s.choices place 0

    -- past the last place there is nothing to take
    there : get_or (options m s) place [] ≡ options_at (sizes (alternatives m)) s.choices place
    unfolding options
    there = ⊎_elim
        (λ l. options_there (sizes (alternatives m)) s.choices 16 place l)
        (λ l.
        let none = past l in
        let count = sizes_count m.alternatives m.declared m.places m.few m.canonical in
        let few : get_or (sizes (alternatives m)) place 0 ≡ 0 = get_or_past (sizes (alternatives m)) place 0 (omega (arith, m.few)) in
        options_past (sizes (alternatives m)) s.choices 16 place l
        ∙ sym (ap (λ k. cond (eqb k 0) (up_to (get_or (sizes (alternatives m)) place 0)) (k ∷ [])) none ∙ ap up_to few))
        (cases_lt place 16)

    pub free_there : supposed ≡ 0 → get_or (options m s) place [] ≡ up_to size
    free_there none = there ∙ cond-true _ _ _ (eq-eqb supposed 0 none)

    pub fixed_there : supposed ≢ 0 → get_or (options m s) place [] ≡ supposed ∷ []
    fixed_there some = there ∙ cond-false _ _ _ (ne_eqb supposed 0 some)

    -- at most eight choices are declared
    size_few : size ≤ 8
    size_few = ⊎_elim
        (λ l.
        let whole = whole_at m.alternatives m.declared m.places m.few m.canonical place l in
        let few : (get_or m.alternatives place nowhere).choices ≤ 8 = grind (arith, nat_tests) in
        omega (arith, few, sizes_at m.alternatives m.declared m.places m.few m.canonical place l))
        (λ l.
        let count = sizes_count m.alternatives m.declared m.places m.few m.canonical in
        let none : size ≡ 0 = get_or_past (sizes (alternatives m)) place 0 (omega (arith, count)) in
        omega (arith, none))
        (cases_lt place m.declared)

    pub options_few : length (get_or (options m s) place []) ≤ 8
    options_few = ⊎_elim
        (λ none. omega (arith, size_few, ap length (free_there none ∙ up_to_counting size), length-range_with_len 1 size))
        (λ some. omega (arith, ap length (fixed_there some)))
        (cases_eq supposed 0)

-- rows that make one choice alone
pub alone_lists : (place : ℕ) (ns : List ℕ) → as_lists (alone_rows place ns) ≡ map (lone place) ns
alone_lists place [] = refl
alone_lists place (n ∷ ns) = ap (λ l. lone place n ∷ l) (alone_lists place ns)

-- the choices contrary to a row at a place, and the rows of a choice there, where os has options for sixteen places
module _ (os : Options) (sixteen : length os ≡ 16) (place : ℕ) (o : List ℕ) (is : get_or os place [] ≡ o) where
  empty_sixteen : empty os ≡ replicate 16 0
  empty_sixteen = ap (λ n. replicate n 0) sixteen

  module _ (r : Row) where
    pub contrary_none : get_or r place 0 ≡ 0 → contrary_at os r place ≡ []
    contrary_none h = cond-true _ _ _ (eq-eqb (get_or r place 0) 0 h)

    pub contrary_some : get_or r place 0 ≢ 0 → contrary_at os r place ≡ as_lists (alone_rows place (filter (λ n. not (eqb n (get_or r place 0))) o))
    contrary_some h =
        cond-false _ _ _ (ne_eqb (get_or r place 0) 0 h)
        ∙ ap (λ (e : Row). map (λ n. set e place n) (others (get_or os place []) (get_or r place 0))) empty_sixteen
        ∙ ap (λ ns. map (lone place) (others ns (get_or r place 0))) is
        ∙ sym (alone_lists place (filter (λ n. not (eqb n (get_or r place 0))) o))

  module _ (p : ℕ → Bool) where
    several : (o : List ℕ) → 2 ≤ length o → rows_at os place p o ≡ map (lone place) (filter p o)
    unfolding rows_at
    several [] h = absurd (omega arith)
    several (n ∷ []) h = absurd (omega arith)
    several (n ∷ (k ∷ o)) h = ap (λ (e : Row). map (λ n. set e place n) (filter p (n ∷ (k ∷ o)))) empty_sixteen

    pub rows_several : 2 ≤ length o → as_lists (alone_rows place (filter p o)) ≡ rows_at os place p (get_or os place [])
    rows_several h = alone_lists place (filter p o) ∙ sym (ap (rows_at os place p) is ∙ several o h)

    -- where there is one, or none
    pub rows_single : (last : ℕ) → (o ≡ last ∷ []) ⊎ ((o ≡ []) × (last ≡ 0)) → rows_at os place p (get_or os place []) ≡ cond (p last) (replicate 16 0 ∷ []) []
    unfolding rows_at
    rows_single last (inl one) = ap (rows_at os place p) (is ∙ one) ∙ ap (λ (e : Row). cond (p last) (e ∷ []) []) empty_sixteen
    rows_single last (inr none) = ap (rows_at os place p) (is ∙ none.0) ∙ ap (λ n. cond (p n) (empty os ∷ []) []) (sym none.1) ∙ ap (λ (e : Row). cond (p last) (e ∷ []) []) empty_sixteen
