-- A function of what is left of two lists, one step on and at the end.
use Rattle.std.proofs.Common.{◌≡◌, ℕ, ◌+◌, ◌<◌, ◌≤◌, List, [], ◌∷◌, length, get_or, drop, ◌∙◌}
use Rattle.std.proofs.lemmas.List.{at_drop_more, at_drop_all}

module _ {X Y : Type 0} (F : List X → List X → Y) (xs ys : List X) (i : ℕ) where
  pub pair_more : (d : X) → i < length xs → i < length ys → F (drop i xs) (drop i ys) ≡ F (get_or xs i d ∷ drop (i + 1) xs) (get_or ys i d ∷ drop (i + 1) ys)
  pair_more d h k = at_drop_more (λ zs. F zs (drop i ys)) xs i d h ∙ at_drop_more (F (get_or xs i d ∷ drop (i + 1) xs)) ys i d k

  pub pair_all : length xs ≤ i → length ys ≤ i → F (drop i xs) (drop i ys) ≡ F [] []
  pair_all h k = at_drop_all (λ zs. F zs (drop i ys)) xs i h ∙ at_drop_all (F []) ys i k
