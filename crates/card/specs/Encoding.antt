-- The bytes of a record on a card.
use Rattle.std.specs.Prelude.{◌≡◌, ℕ, ◌+◌, ◌*◌, ◌/◌, ◌≤◌, cond, List, [], ◌∷◌, ◌++◌, length, take, drop, Some, None, codes, Option, nat_lt}

-- a record, its weights and literals as bytes: four to a weight, three to a literal
pub data Entry : Type 0 where
  alternative : (weights : List ℕ) → Entry
  rule : (head : ℕ) (literals : List ℕ) → Entry
  end : Entry

-- tag, number of choices, weights; tag, head, number of literals, literals; tag alone
abbrev pub encoding : Entry → List ℕ
encoding (alternative weights) = codes "AL" ++ (length weights / 4 ∷ weights)
encoding (rule head literals) = codes "RU" ++ (head ∷ (length literals / 3 ∷ literals))
encoding end = codes "EN"

-- an alternative has 2 to 8 whole weights, a rule at most 8 whole literals
abbrev pub Framed : Entry → Type 0
Framed (alternative weights) = (n : ℕ) × (2 ≤ n) × (n ≤ 8) × (length weights ≡ 4 * n)
Framed (rule head literals) = (n : ℕ) × (n ≤ 8) × (length literals ≡ 3 * n)
Framed end = Unit {0}

-- the number that bytes mean, the lowest first
abbrev pub value : List ℕ → ℕ
value [] = 0
value (b ∷ bytes) = b + 256 * value bytes

-- a raw weight out of the weights of a record, counted from 0: the number that four bytes mean
abbrev pub weight : List ℕ → ℕ → Option ℕ
weight weights i = cond (nat_lt i (length weights / 4)) (Some (value (take 4 (drop (4 * i) weights)))) None
