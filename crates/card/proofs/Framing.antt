-- A record that is read is framed and begins the bytes with its encoding; and what begins so is read as that record.
use Rattle.std.proofs.Common.{◌≡◌, ℕ, ◌+◌, ◌*◌, ◌/◌, ◌<◌, ◌≤◌, Bool, true, false, cond, ◌&&◌, eqb, leb, List, [], ◌∷◌, ◌++◌, length, take, drop, Ok, codes, sym, refl, ap, ◌∙◌, subst, arith}
use native.Mathlib.Nat.{mul-div_cancel_left}
use Rattle.std.proofs.lemmas.List.{take-append-drop, take_at, length-take-le, length-append, length-drop}
use Rattle.std.proofs.lemmas.Bool.{cond-true, le-leb}
use Rattle.std.proofs.lemmas.Bool.Decides.{nat_tests}
use Rattle.card.specs.Encoding.{Entry, alternative, rule, end, encoding, Framed}
use Rattle.card.specs.Reading.{whole, spells, after_al, after_ru, after_en, front, step}

-- which way a test went
at_cond : {X P : Type 0} (b : Bool) {x y z : X} → cond b x y ≡ z → (b ≡ true → x ≡ z → P) → (y ≡ z → P) → P
at_cond true h then else = then refl h
at_cond false h then else = else h

-- the bytes begin with the record's encoding; behind the end record nothing stands
pub record Begins (bytes : List ℕ) (e : Entry) : Type 0 where
  pub framed : Framed e
  pub rest : List ℕ
  pub is : bytes ≡ encoding e ++ rest
  pub last : e ≡ end → rest ≡ []

whole_taken : (at size : ℕ) (bytes : List ℕ) (make : List ℕ → Entry) (e : Entry) → whole at size bytes make ≡ Ok e → (size ≤ length bytes) × (e ≡ make (take size bytes))
whole_taken at size bytes make e h = (grind (arith, nat_tests), grind (arith, nat_tests))

-- a count and then so many parts of k bytes, and what follows them
module _ (k n : ℕ) (some : 0 < k) where
  parts : (bytes : List ℕ) → length bytes ≡ k * n → length bytes / k ≡ n
  parts bytes is = rw is (mul-div_cancel_left n some)

  parts_split : (bytes : List ℕ) → k * n ≤ length bytes
      → (length (take (k * n) bytes) ≡ k * n) × (n ∷ bytes ≡ (length (take (k * n) bytes) / k ∷ take (k * n) bytes) ++ drop (k * n) bytes)
  parts_split bytes fit =
      let long = length-take-le (k * n) bytes fit in
      let count = parts (take (k * n) bytes) long in
      let split = take-append-drop (k * n) bytes in
      (long, cc)

  parts_whole : (at : ℕ) (bytes rest : List ℕ) (make : List ℕ → Entry) → length bytes ≡ k * n → whole at (k * n) (bytes ++ rest) make ≡ Ok (make bytes)
  parts_whole at bytes rest make is =
      let both = length-append bytes rest in
      let front-is = take_at bytes rest (k * n) is in
      cond-true _ _ _ (le-leb (k * n) (length (bytes ++ rest)) (omega arith)) ∙ ap (λ bs. Ok (make bs)) front-is

al_begins : (at : ℕ) (body : List ℕ) (e : Entry) → after_al at body ≡ Ok e → Begins (codes "AL" ++ body) e
al_begins at [] e h = let z : ◌≡◌ {A = ℕ} 0 1 = cc in absurd (omega arith)
al_begins at (n ∷ bytes) e h =
    let low : 2 ≤ n = grind (arith, nat_tests) in
    let high : n ≤ 8 = grind (arith, nat_tests) in
    let all : whole at (4 * n) bytes alternative ≡ Ok e = grind (arith, nat_tests) in
    let taken = whole_taken at (4 * n) bytes alternative e all in
    let split = parts_split 4 n (omega arith) bytes taken.0 in
    subst (Begins (codes "AL" ++ (n ∷ bytes))) (sym taken.1) (record {
      framed = (n, low, high, split.0);
      rest = drop (4 * n) bytes;
      is = ap (λ bs. codes "AL" ++ bs) split.1;
      last = λ same. let z : ◌≡◌ {A = ℕ} 0 1 = cc in absurd (omega arith);
    })

ru_begins : (at : ℕ) (body : List ℕ) (e : Entry) → after_ru at body ≡ Ok e → Begins (codes "RU" ++ body) e
ru_begins at [] e h = let z : ◌≡◌ {A = ℕ} 0 1 = cc in absurd (omega arith)
ru_begins at (head ∷ []) e h = let z : ◌≡◌ {A = ℕ} 0 1 = cc in absurd (omega arith)
ru_begins at (head ∷ n ∷ bytes) e h =
    let high : n ≤ 8 = grind (arith, nat_tests) in
    let all : whole at (3 * n) bytes (rule head) ≡ Ok e = grind (arith, nat_tests) in
    let taken = whole_taken at (3 * n) bytes (rule head) e all in
    let split = parts_split 3 n (omega arith) bytes taken.0 in
    subst (Begins (codes "RU" ++ (head ∷ n ∷ bytes))) (sym taken.1) (record {
      framed = (n, high, split.0);
      rest = drop (3 * n) bytes;
      is = ap (λ bs. codes "RU" ++ (head ∷ bs)) split.1;
      last = λ same. let z : ◌≡◌ {A = ℕ} 0 1 = cc in absurd (omega arith);
    })

en_begins : (at : ℕ) (body : List ℕ) (e : Entry) → after_en at body ≡ Ok e → Begins (codes "EN" ++ body) e
en_begins at [] e h = let is : end ≡ e = cc in subst (Begins (codes "EN")) is (record { framed = tt; rest = []; is = refl; last = λ same. refl })
en_begins at (b ∷ body) e h = let z : ◌≡◌ {A = ℕ} 0 1 = cc in absurd (omega arith)

-- the bytes under a tag that was told
tagged : (a b x y : ℕ) (body : List ℕ) (e : Entry) → (eqb a x && eqb b y) ≡ true → Begins (x ∷ y ∷ body) e → Begins (a ∷ b ∷ body) e
tagged a b x y body e told h =
    let first : a ≡ x = grind (arith, nat_tests) in
    let second : b ≡ y = grind (arith, nat_tests) in
    rw (first, second) h

pub front_begins : (at : ℕ) (bytes : List ℕ) (e : Entry) → front at bytes ≡ Ok e → Begins bytes e
front_begins at [] e h = let z : ◌≡◌ {A = ℕ} 0 1 = cc in absurd (omega arith)
front_begins at (a ∷ []) e h = let z : ◌≡◌ {A = ℕ} 0 1 = cc in absurd (omega arith)
front_begins at (a ∷ b ∷ body) e h =
    at_cond (spells "AL" a b) h (λ t k. tagged a b 65 76 body e t (al_begins at body e k))
    (λ k. at_cond (spells "RU" a b) k (λ t l. tagged a b 82 85 body e t (ru_begins at body e l))
    (λ l. at_cond (spells "EN" a b) l (λ t m. tagged a b 69 78 body e t (en_begins at body e m))
    (λ m. let z : ◌≡◌ {A = ℕ} 0 1 = cc in absurd (omega arith))))

-- what begins with the encoding of a framed record is read as that record
pub front_reads : (at : ℕ) (e : Entry) (rest : List ℕ) → Framed e → (e ≡ end → rest ≡ []) → front at (encoding e ++ rest) ≡ Ok e
front_reads at (alternative weights) rest (n, low, high, long) last =
    let count = parts 4 n (omega arith) weights long in
    let inside : (leb 2 n && leb n 8) ≡ true = grind (arith, nat_tests) in
    rw count (cond-true _ _ _ inside ∙ parts_whole 4 n (omega arith) at weights rest alternative long)
front_reads at (rule head literals) rest (n, high, long) last =
    let count = parts 3 n (omega arith) literals long in
    rw count (cond-true _ _ _ (le-leb n 8 high) ∙ parts_whole 3 n (omega arith) at literals rest (rule head) long)
front_reads at end rest framed last = rw (last refl)

-- a record has two bytes at least
pub encoding_some : (e : Entry) → 2 ≤ length (encoding e)
encoding_some (alternative weights) = omega arith
encoding_some (rule head literals) = omega arith
encoding_some end = omega arith

-- the bytes of a record lie within the card
pub step_fits : (card : List ℕ) (at : ℕ) (e : Entry) → step card at ≡ Ok e → at + length (encoding e) ≤ length card
step_fits card at e h =
    let b = front_begins at (drop at card) e h in
    let both = ap length b.is ∙ length-append (encoding e) b.rest in
    let some = encoding_some e in
    omega (arith, length-drop at card)
