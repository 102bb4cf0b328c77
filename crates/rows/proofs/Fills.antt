-- Elements that are written into a slice: one into each place, and one more between others.
use Rattle.std.proofs.Common.{◌≡◌, ℕ, ◌+◌, ◌-◌, ◌<◌, ◌≤◌, List, [], ◌∷◌, ◌++◌, length, take, drop, get_or, set, replicate, sym, refl, ap, ◌∙◌, arith}
use Rattle.std.specs.List.{insert, copy_within}
use Rattle.std.proofs.lemmas.List.{append_assoc, drop-take, drop_more, length-replicate, length-take-le, replicate_more, set_at, take-take, take_more}

pub filled_more : {V : Type 0} (x : V) (es : List V) (i : ℕ) → i < length es → set (replicate i x ++ drop i es) i x ≡ replicate (i + 1) x ++ drop (i + 1) es
filled_more x es i h =
    let front = replicate i x in
    ap (λ l. set (front ++ l) i x) (drop_more es i x h) ∙ set_at front (get_or es i x) (drop (i + 1) es) x i (length-replicate i x)
    ∙ sym (append_assoc front (x ∷ []) (drop (i + 1) es)) ∙ ap (λ l. l ++ drop (i + 1) es) (replicate_more i x)

-- those from the place on are one place further, and x is written there
pub opened : {V : Type 0} (x : V) (es : List V) (held at : ℕ) → held < length es → at ≤ held
    → set (copy_within es at held (at + 1)) at x ≡ insert (take held es) at x ++ drop (held + 1) es
opened x es held at h k =
    let moved = take (held - at) (drop at es) in
    let rest = drop (at + 1 + (held - at)) es in
    let there : at + (held - at) ≡ held = omega arith in
    let next : at + 1 + (held - at) ≡ held + 1 = omega arith in
    let front : take at (take held es) ≡ take at es = take-take at held es k in
    let behind : drop at (take held es) ≡ moved = rw there at (drop-take at (held - at) es) in
    ap (λ l. set l at x) (append_assoc (take (at + 1) es) moved rest)
    ∙ ap (λ l. set (l ++ (moved ++ rest)) at x) (take_more es at x (omega arith))
    ∙ ap (λ l. set l at x) (append_assoc (take at es) (get_or es at x ∷ []) (moved ++ rest))
    ∙ set_at (take at es) (get_or es at x) (moved ++ rest) x at (length-take-le at es (omega arith))
    ∙ sym (append_assoc (take at es) (x ∷ moved) rest)
    ∙ rw (front, behind, next) refl
