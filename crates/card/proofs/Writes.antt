-- Bytes written one after the other.
use Rattle.std.proofs.Common.{◌≡◌, ℕ, ◌+◌, ◌<◌, ◌≤◌, true, List, [], ◌++◌, length, get_or, take, drop, Ok, Err, is_ok, IsErr, OnOk, Result, sym, ap, ◌∙◌, subst, arith}
use Rattle.std.specs.List.{flat_map}
use Rattle.std.proofs.lemmas.List.{take_all, take_more, take-append-drop, length-append, flat_map_more}
use Rattle.std.proofs.lemmas.List.Concat.{flat_map-append}
use Rattle.std.proofs.lemmas.Bool.{false≢true}
use Rattle.rows.specs.declared.lent.Lent.{Lent}
use Rattle.rows.specs.Lending.{items, room, SameLoan, Extended, Grown}
use Rattle.rows.proofs.Lends.{grown_more, grown_refused}

-- what an error says, whichever it is
pub grown_err : {E : Type 0} (a b : Lent ℕ) (ys : List ℕ) (r : Result (Unit {0}) E) → IsErr r → SameLoan a b × (room a < length (items a ++ ys)) → Grown a b ys r
grown_err a b ys (Ok u) h p = absurd (false≢true h)
grown_err a b ys (Err e) h p = p

-- what is known anyway, and what is known where a write went well
pub on_ok : {U E P : Type 0} (r : Result U E) → P → OnOk r P
on_ok (Ok u) p = p
on_ok (Err e) p = tt

pub at_ok : {U E P : Type 0} (r : Result U E) → is_ok r ≡ true → OnOk r P → P
at_ok (Ok u) is p = p
at_ok (Err e) is p = absurd (false≢true is)

-- what is refused: there is no room for it
abbrev pub Refused : Lent ℕ → Lent ℕ → List ℕ → Type 0
Refused a b ys = SameLoan a b × (room a < length (items a ++ ys))

-- what follows a write that went well
pub refused_more : (a b c : Lent ℕ) (xs ys : List ℕ) → Extended a b xs → Refused b c ys → Refused a c (xs ++ ys)
refused_more a b c xs ys p q = grown_more {E = Unit {0}} a b c xs ys (Err tt) p q

pub extended_more : (a b c : Lent ℕ) (xs ys : List ℕ) → Extended a b xs → Extended b c ys → Extended a c (xs ++ ys)
extended_more a b c xs ys p q = grown_more {E = Unit {0}} a b c xs ys (Ok tt) p q

-- a loop over a list, each element of which has its bytes
module _ {X : Type 0} (f : X → List ℕ) (xs : List X) (i : ℕ) where
  joined_next : (d x : X) → x ≡ get_or xs i d → i < length xs → flat_map f (take (i + 1) xs) ≡ flat_map f (take i xs) ++ f x
  joined_next d x is h = ap (flat_map f) (take_more xs i d h) ∙ sym (flat_map_more f [] (take i xs) (get_or xs i d)) ∙ ap (λ y. flat_map f (take i xs) ++ f y) (sym is)

  split : (n : ℕ) → flat_map f xs ≡ flat_map f (take n xs) ++ flat_map f (drop n xs)
  split n = ap (flat_map f) (sym (take-append-drop n xs)) ∙ flat_map-append f (take n xs) (drop n xs)

  -- the bytes of one are among all
  pub sized_room : (d x : X) → x ≡ get_or xs i d → i < length xs → length (f x) ≤ length (flat_map f xs)
  sized_room d x is h =
      let all = ap length (split (i + 1)) ∙ length-append (flat_map f (take (i + 1) xs)) (flat_map f (drop (i + 1) xs)) in
      omega (arith, ap length (joined_next d x is h), length-append (flat_map f (take i xs)) (f x))

  -- the first i are written
  module _ (start now : Lent ℕ) where
    abbrev pub Writing : Type 0
    Writing = Extended start now (flat_map f (take i xs))

    module _ (w : Writing) where
      pub writing_more : (next : Lent ℕ) (d x : X) → x ≡ get_or xs i d → i < length xs → Extended now next (f x) → Extended start next (flat_map f (take (i + 1) xs))
      writing_more next d x is h more = subst (Extended start next) (sym (joined_next d x is h)) (extended_more start now next (flat_map f (take i xs)) (f x) w more)

      pub writing_all : length xs ≤ i → Extended start now (flat_map f xs)
      writing_all h = subst (λ ys. Extended start now (flat_map f ys)) (take_all i xs h) w

      pub writing_refused : (next : Lent ℕ) (d x : X) → x ≡ get_or xs i d → i < length xs → Refused now next (f x) → Refused start next (flat_map f xs)
      writing_refused next d x is h refused =
          let one = subst (Refused start next) (sym (joined_next d x is h)) (refused_more start now next (flat_map f (take i xs)) (f x) w refused) in
          subst (Refused start next) (sym (split (i + 1))) (grown_refused start next (flat_map f (take (i + 1) xs)) (flat_map f (drop (i + 1) xs)) one)
