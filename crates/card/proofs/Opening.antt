-- The weights that stand one after the other, as the code takes them.
use Rattle.std.proofs.Common.{◌≡◌, ℕ, zero, suc, ◌+◌, ◌*◌, ◌/◌, ◌<◌, List, [], ◌∷◌, length, get_or, take, drop, Some, sym, ap, ◌∙◌, mul-zero, mul-suc, arith}
use Rattle.std.specs.Simd.{first_chunks}
use Rattle.std.proofs.lemmas.List.{drop-drop, length-drop, length-take-le}
use Rattle.std.proofs.lemmas.Bool.{cond-true, lt-ltb}
use Rattle.card.specs.Encoding.{value, weight}

-- the chunk of n elements that stands at i
pub chunk_at : {X : Type 0} (n k : ℕ) (xs : List X) (i : ℕ) (d : List X) → i < k → get_or (first_chunks n k xs) i d ≡ take n (drop (n * i) xs)
chunk_at n zero xs i d h = absurd (omega arith)
chunk_at n (suc k) xs zero d h = ap (λ m. take n (drop m xs)) (sym (mul-zero n))
chunk_at n (suc k) xs (suc i) d h =
    let on : n + n * i ≡ n * suc i = omega (arith, mul-suc n i) in
    chunk_at n k (drop n xs) i d (omega arith) ∙ ap (take n) (drop-drop (n * i) n xs ∙ ap (λ m. drop m xs) on)

-- four bytes of which the code takes each
pub value_four : (bytes : List ℕ) → length bytes ≡ 4 → get_or bytes 0 0 + get_or bytes 1 0 * 256 + get_or bytes 2 0 * 65536 + get_or bytes 3 0 * 16777216 ≡ value bytes
value_four [] h = absurd (omega arith)
value_four (a ∷ []) h = absurd (omega arith)
value_four (a ∷ b ∷ []) h = absurd (omega arith)
value_four (a ∷ b ∷ c ∷ []) h = absurd (omega arith)
value_four (a ∷ b ∷ c ∷ d ∷ []) h = omega arith
value_four (a ∷ b ∷ c ∷ d ∷ e ∷ bytes) h = absurd (omega arith)

-- a weight that lies within the weights is there
pub weight_there : (weights bytes : List ℕ) (i n : ℕ) → i < length weights / 4 → bytes ≡ get_or (first_chunks 4 (length weights / 4) weights) i bytes
    → n ≡ get_or bytes 0 0 + get_or bytes 1 0 * 256 + get_or bytes 2 0 * 65536 + get_or bytes 3 0 * 16777216 → Some n ≡ weight weights i
weight_there weights bytes i n h found is =
    let part = found ∙ chunk_at 4 (length weights / 4) weights i bytes h in
    let long : length bytes ≡ 4 = ap length part ∙ length-take-le 4 (drop (4 * i) weights) (omega (arith, length-drop (4 * i) weights)) in
    ap Some (is ∙ value_four bytes long ∙ ap value part) ∙ sym (cond-true _ _ _ (lt-ltb i (length weights / 4) h))
