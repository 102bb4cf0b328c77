-- Rows as lists of numbers, one for each alternative: 0 where it is untouched, otherwise the choice made there.
-- Lists of different lengths are told apart, so that the laws of the orders hold of all lists.
use Rattle.std.specs.Prelude.{◌≡◌, ℕ, Bool, true, false, cond, ◌&&◌, ◌||◌, List, [], ◌∷◌, ◌==◌, nat_lt}

-- r agrees with s wherever s is not 0
abbrev pub contains : List ℕ → List ℕ → Bool
contains [] [] = true
contains [] (y ∷ ys) = false
contains (x ∷ xs) [] = false
contains (x ∷ xs) (y ∷ ys) = (y == 0 || x == y) && contains xs ys

-- no place holds two different numbers that are not 0
abbrev pub compatible : List ℕ → List ℕ → Bool
compatible [] [] = true
compatible [] (y ∷ ys) = false
compatible (x ∷ xs) [] = false
compatible (x ∷ xs) (y ∷ ys) = (x == 0 || (y == 0 || x == y)) && compatible xs ys

-- the choices of r, and those of s where r has none
abbrev pub union : List ℕ → List ℕ → List ℕ
union [] ys = []
union (x ∷ xs) [] = x ∷ xs
union (x ∷ xs) (y ∷ ys) = cond (x == 0) y x ∷ union xs ys

-- at the first difference r has the smaller number
abbrev pub earlier : List ℕ → List ℕ → Bool
earlier [] [] = false
earlier [] (y ∷ ys) = true
earlier (x ∷ xs) [] = false
earlier (x ∷ xs) (y ∷ ys) = nat_lt x y || (x == y && earlier xs ys)

-- a world contains u exactly when it contains both r and s
abbrev pub SaysBoth : List ℕ → List ℕ → List ℕ → Type 0
SaysBoth u r s = (w : List ℕ) → contains w u ≡ (contains w r && contains w s)
