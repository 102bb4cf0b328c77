-- Bytes that are too few for a value mean none.
use Rattle.std.specs.Prelude.{◌≡◌, ℕ, ◌<◌, List, [], ◌∷◌, length, refl}
use Rattle.std.proofs.Common.{arith}
use Rattle.card.specs.Loading.{weights, literals}

pub weights_none : (bytes : List ℕ) → length bytes < 4 → weights bytes ≡ []
weights_none [] h = refl
weights_none (a ∷ []) h = refl
weights_none (a ∷ b ∷ []) h = refl
weights_none (a ∷ b ∷ c ∷ []) h = refl
weights_none (a ∷ b ∷ c ∷ d ∷ bytes) h = absurd (omega arith)

pub literals_none : (bytes : List ℕ) → length bytes < 3 → literals bytes ≡ []
literals_none [] h = refl
literals_none (a ∷ []) h = refl
literals_none (a ∷ b ∷ []) h = refl
literals_none (a ∷ b ∷ c ∷ bytes) h = absurd (omega arith)
