-- The bodies of rules, as the code goes through them.
use Rattle.std.proofs.Common.{◌≡◌, ℕ, ◌≤◌, Ordering, Less, Equal, Greater, ◌&&◌, ◌||◌, List, [], ◌∷◌, ◌++◌, ◌-◌, length, take, drop, replicate, append-nil, Some, None, Ok, Err, IsOk, Option, Result, ltb, eqb, sym, refl, ap, ◌∙◌, arith}
use Rattle.std.specs.List.{flat_map, list_all}
use Rattle.std.specs.Ordering.{is_lt, is_some_and, nat_cmp, partial_lt, partial_ordering_then}
use Rattle.std.specs.Cmp.Lexicographic.{slice_partial_cmp}
use Rattle.std.proofs.lemmas.List.{drop_all, drop-drop, length-drop, length-take-le, replicate-append-replicate}
use Rattle.std.proofs.lemmas.Bool.Decides.{nat_tests}
use Rattle.rows.specs.Keeping.{covered, kept_all, shown}
use Rattle.rows.specs.Rows.{earlier}
use Rattle.model.specs.contracts.literal.LiteralPartialOrd.TheImpl as of_literals
use Rattle.model.specs.declared.literal.Literal.{Literal}
use Rattle.model.specs.declared.rule.Rule.{Rule}
use Rattle.model.specs.Literals.{numbers, alike, sooner, blank_literal}
use Rattle.model.specs.Rules.{subset, listing, as_set, tabled, rule_of}

-- a table of which the places from one on were filled anew
pub filled : {V : Type 0} (limit n : ℕ) (v : V) (table rest : List V) → length table ≡ limit → rest ≡ replicate (length (take (limit - n) (drop n table))) v → take n table ++ (rest ++ drop (limit - n) (drop n table)) ≡ take n table ++ replicate (limit - n) v
filled limit n v table rest long is =
    let past = length-drop n table in
    let all = ap (λ vs. rest ++ vs) (drop_all (limit - n) (drop n table) (omega arith)) ∙ append-nil rest in
    ap (λ vs. take n table ++ vs) (all ∙ is ∙ ap (λ k. replicate k v) (length-take-le (limit - n) (drop n table) (omega arith)))

-- a table of which the places from one to another were filled anew, and those from there on held the same already
pub refilled : {V : Type 0} (limit n m : ℕ) (v : V) (table rest : List V) → n ≤ m → m ≤ limit → length table ≡ limit → rest ≡ replicate (length (take (m - n) (drop n table))) v → drop m table ≡ replicate (limit - m) v
    → take n table ++ (rest ++ drop (m - n) (drop n table)) ≡ take n table ++ replicate (limit - n) v
refilled limit n m v table rest low high long is already =
    let past = length-drop n table in
    let front = is ∙ ap (λ k. replicate k v) (length-take-le (m - n) (drop n table) (omega arith)) in
    let behind = drop-drop (m - n) n table ∙ ap (λ k. drop k table) (omega arith) ∙ already in
    ap (λ vs. take n table ++ vs)
    (ap (λ vs. vs ++ drop (m - n) (drop n table)) front ∙ ap (λ vs. replicate (m - n) v ++ vs) behind
    ∙ replicate-append-replicate (m - n) (limit - m) v ∙ ap (λ k. replicate k v) (omega arith))

-- the rule whose literals a run put in the front of a table
pub rule_built : (head n : ℕ) (body table places : List Literal) → Some (take n table) ≡ kept_all alike sooner 8 [] body → n ≤ 8 → length table ≡ 8 → places ≡ take n table ++ replicate (8 - n) blank_literal
    → ◌≡◌ {A = Rule} (record { head = head; len = n; body = places }) (rule_of head body)
rule_built head n body table places put few long is =
    let set : take n table ≡ as_set body = ap listing put in
    let count : n ≡ length (as_set body) = sym (length-take-le n table (omega arith)) ∙ ap length set in
    let all : places ≡ tabled (as_set body) = is ∙ (λ i. set i ++ replicate (8 - count i) blank_literal) in
    λ i. record { head = head; len = count i; body = all i }

-- a run that kept something was not refused
pub shown_ok : {V E : Type 0} (r : Result ℕ E) (table vs : List V) → shown r table ≡ Some vs → IsOk r
shown_ok (Ok n) table vs h = refl
shown_ok (Err e) table vs h = let z : ◌≡◌ {A = ℕ} 0 1 = cc in absurd (omega arith)

-- each literal is one of others
pub each_one_of : (ls ms : List Literal) → list_all (covered alike ms) ls ≡ subset ls ms
each_one_of [] ms = refl
each_one_of (l ∷ ls) ms = λ i. covered alike ms l && each_one_of ls ms i

-- orders one after another
then_then : (a b c : Option Ordering) → partial_ordering_then (partial_ordering_then a b) c ≡ partial_ordering_then a (partial_ordering_then b c)
then_then None b c = refl
then_then (Some Less) b c = refl
then_then (Some Equal) b c = refl
then_then (Some Greater) b c = refl

-- a pair of numbers decides, and where they are equal what follows does
pub decides_first : (x y : ℕ) (rest : Option Ordering) → is_some_and is_lt (partial_ordering_then (Some (nat_cmp x y)) rest) ≡ (ltb x y || (eqb x y && is_some_and is_lt rest))
decides_first x y rest = grind (arith, nat_tests)

-- the derived order of literals, one after another, is that of their numbers
pub body_before : (ls ms : List Literal) → partial_lt (slice_partial_cmp of_literals.ghosts.partial_cmp) ls ms ≡ earlier (flat_map numbers ls) (flat_map numbers ms)
body_before [] [] = refl
body_before [] (m ∷ ms) = refl
body_before (l ∷ ls) [] = refl
body_before (l ∷ ls) (m ∷ ms) =
    let kind = Some (nat_cmp l.kind m.kind) in
    let first = Some (nat_cmp l.first m.first) in
    let second = Some (nat_cmp l.second m.second) in
    let rest = slice_partial_cmp of_literals.ghosts.partial_cmp ls ms in
    ap (is_some_and is_lt) (then_then kind (partial_ordering_then first second) rest ∙ ap (partial_ordering_then kind) (then_then first second rest))
    ∙ decides_first l.kind m.kind (partial_ordering_then first (partial_ordering_then second rest))
    ∙ ap (λ b. ltb l.kind m.kind || (eqb l.kind m.kind && b))
    (decides_first l.first m.first (partial_ordering_then second rest)
    ∙ ap (λ b. ltb l.first m.first || (eqb l.first m.first && b))
    (decides_first l.second m.second rest ∙ ap (λ b. ltb l.second m.second || (eqb l.second m.second && b)) (body_before ls ms)))
