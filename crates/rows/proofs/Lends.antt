-- A list in a lent slice that grows.
use Rattle.std.proofs.Common.{◌≡◌, ℕ, ◌+◌, ◌<◌, ◌≤◌, List, [], ◌++◌, length, take, drop, Ok, Err, Result, sym, refl, ap, ◌∙◌, arith}
use Rattle.std.proofs.lemmas.List.{append_assoc, append-nil, length-append, length-take-le}
use Rattle.rows.specs.Lending.{items, room, SameLoan, Extended, Grown}
use Rattle.rows.specs.declared.lent.Lent.{Lent}
use Rattle.rows.proofs.Puts.{drop_later}

module _ {V : Type 0} (len : ℕ) (ys places after : List V) (fits : len ≤ length places) (front : take (len + length ys) after ≡ take len places ++ ys) where
  -- how many there are then
  grown_length : length (take (len + length ys) after) ≡ len + length ys
  grown_length = ap length front ∙ length-append (take len places) ys ∙ ap (λ n. n + length ys) (length-take-le len places fits)

  pub grown_past : drop (len + length ys) after ≡ drop (len + length ys) places → drop (length (take (len + length ys) after)) after ≡ drop (length (take (len + length ys) after)) places
  grown_past e = rw grown_length e

pub same_loan : {V : Type 0} (a b c : Lent V) → SameLoan a b → SameLoan b c → SameLoan a c
same_loan a b c p q = record { lender = q.lender ∙ p.lender; size = q.size ∙ p.size }

-- nothing is appended
pub grown_none : {V : Type 0} (a : Lent V) → Extended a a []
grown_none a = record { loan = record { lender = refl; size = refl }; listed = sym (append-nil (items a)); past = refl }

-- ys are appended, and then zs
pub grown_more : {V E : Type 0} (a b c : Lent V) (ys zs : List V) (r : Result Unit E) → Extended a b ys → Grown b c zs r → Grown a c (ys ++ zs) r
grown_more a b c ys zs (Ok u) p q =
    let more : length (items b) ≤ length (items c) = omega (arith, ap length q.listed, length-append (items b) zs) in
    record {
      loan = same_loan a b c p.loan q.loan;
      listed = q.listed ∙ ap (λ l. l ++ zs) p.listed ∙ append_assoc (items a) ys zs;
      past = q.past ∙ drop_later (length (items b)) (length (items c)) b.places.now a.places.now more p.past;
    }
grown_more a b c ys zs (Err e) p q =
    (same_loan a b c p.loan q.0, omega (arith, q.1, p.loan.size, length-append (items b) zs, ap length p.listed, length-append (items a) ys, length-append (items a) (ys ++ zs), length-append ys zs))

-- where there is no room for ys, there is none for more
pub grown_refused : {V : Type 0} (a b : Lent V) (ys zs : List V) → SameLoan a b × (room a < length (items a ++ ys)) → SameLoan a b × (room a < length (items a ++ (ys ++ zs)))
grown_refused a b ys zs p = (p.0, omega (arith, p.1, length-append (items a) ys, length-append (items a) (ys ++ zs), length-append ys zs))
