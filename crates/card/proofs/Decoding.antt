-- Values out of bytes, k bytes to each, as a loop puts them into a table.
use Rattle.std.proofs.Common.{◌≡◌, ℕ, ◌+◌, ◌*◌, ◌/◌, ◌<◌, List, [], ◌∷◌, ◌++◌, length, get_or, take, drop, set, sym, ap, ◌∙◌, mul-one, mul-add, mul-zero, arith}
use Rattle.std.specs.Simd.{first_chunks}
use Rattle.std.proofs.lemmas.List.{append_assoc, append-nil, take-append-drop, take_more_set, drop-drop, length-drop}
use Rattle.card.proofs.Opening.{chunk_at}

-- what the table has, and then what is left, is the whole
module _ {V : Type 0} (parts : List ℕ → List V) (k : ℕ) (bytes : List ℕ) where
  abbrev pub Filling : List V → ℕ → Type 0
  Filling table i = parts bytes ≡ take i table ++ parts (drop (k * i) bytes)

  pub filling_none : (table : List V) → Filling table 0
  filling_none table = ap (λ n. parts (drop n bytes)) (sym (mul-zero k))

  -- one more value, out of the chunk at i
  pub filling_more : (table : List V) (i : ℕ) (v : V) (each : List (List ℕ)) (part : List ℕ) → Filling table i → i < length table → i < length bytes / k → each ≡ first_chunks k (length bytes / k) bytes → part ≡ get_or each i part
      → ((rest : List ℕ) → parts (part ++ rest) ≡ v ∷ parts rest) → Filling (set table i v) (i + 1)
  filling_more table i v each part inv room here cut is next =
      let left = drop (k * i) bytes in
      let on : k * i + k ≡ k * (i + 1) = sym (mul-add k i 1 ∙ ap (λ n. k * i + n) (mul-one k)) in
      let split : left ≡ part ++ drop k left = sym (take-append-drop k left) ∙ ap (λ bs. bs ++ drop k left) (sym (is ∙ ap (λ ps. get_or ps i part) cut ∙ chunk_at k (length bytes / k) bytes i part here)) in
      inv ∙ ap (λ vs. take i table ++ vs) (ap parts split ∙ next (drop k left)) ∙ sym (append_assoc (take i table) (v ∷ []) (parts (drop k left)))
      ∙ ap (λ vs. vs ++ parts (drop k left)) (sym (take_more_set table i v room))
      ∙ ap (λ bs. take (i + 1) (set table i v) ++ parts bs) (drop-drop k (k * i) bytes ∙ ap (λ n. drop n bytes) on)

  -- behind the last chunk too few bytes are left for a value
  pub filling_all : (table : List V) (some : 0 < k) → ((bs : List ℕ) → length bs < k → parts bs ≡ []) → Filling table (length bytes / k) → take (length bytes / k) table ≡ parts bytes
  filling_all table some none inv =
      let i = length bytes / k in
      let few : length (drop (k * i) bytes) < k = omega (arith, length-drop (k * i) bytes) in
      sym (inv ∙ ap (λ vs. take i table ++ vs) (none (drop (k * i) bytes) few) ∙ append-nil (take i table))
