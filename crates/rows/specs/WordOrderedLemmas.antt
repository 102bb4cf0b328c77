-- Records of a number and two letters, for a type of the tests.
use Rattle.std.specs.Prelude.{◌≡◌, ℕ, List, [], ◌∷◌, length, slice_index, refl}
use Rattle.std.proofs.Common.{ap₂, arith}

-- two letters are all of a list of two
two : (xs : List ℕ) → length xs ≡ 2 → xs ≡ slice_index xs 0 ∷ slice_index xs 1 ∷ []
two [] h = absurd (omega arith)
two (x ∷ []) h = absurd (omega arith)
two (x ∷ y ∷ []) h = refl
two (x ∷ y ∷ z ∷ xs) h = absurd (omega arith)

pub word_same : {W : Type 0} (make : ℕ → List ℕ → W) (m n : ℕ) (xs ys : List ℕ) → length xs ≡ 2 → length ys ≡ 2 → m ≡ n → slice_index xs 0 ≡ slice_index ys 0 → slice_index xs 1 ≡ slice_index ys 1
    → make m xs ≡ make n ys
word_same make m n xs ys h k p q r =
    let left = two xs h in
    let right = two ys k in
    let all : xs ≡ ys = cc in
    ap₂ make p all
