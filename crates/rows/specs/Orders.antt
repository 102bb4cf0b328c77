-- Two comparisons of one type, and what makes them orders of its valid values.
use Rattle.std.specs.Prelude.{◌≡◌, Bool, true, false}

-- of valid values `below` is a partial order, and `before` a strict total order
pub record Orders {V : Type 0} (valid : V → Bool) (below before : V → V → Bool) : Type 0 where
  pub itself : (x : V) → valid x ≡ true → below x x ≡ true
  pub through : (x y z : V) → valid x ≡ true → valid y ≡ true → valid z ≡ true → below x y ≡ true → below y z ≡ true → below x z ≡ true
  pub same : (x y : V) → valid x ≡ true → valid y ≡ true → below x y ≡ true → below y x ≡ true → x ≡ y
  pub apart : (x : V) → valid x ≡ true → before x x ≡ false
  pub onward : (x y z : V) → valid x ≡ true → valid y ≡ true → valid z ≡ true → before x y ≡ true → before y z ≡ true → before x z ≡ true
  pub total : (x y : V) → valid x ≡ true → valid y ≡ true → before x y ≡ false → before y x ≡ false → x ≡ y
