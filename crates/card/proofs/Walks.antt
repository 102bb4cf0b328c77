-- The walk over a card: steps do not run out, what is accepted is exactly the encodings of its records, and the reverse.
use Rattle.std.proofs.Common.{◌≡◌, ℕ, zero, suc, ◌+◌, ◌-◌, ◌<◌, ◌≤◌, List, [], ◌∷◌, ◌++◌, length, drop, Some, None, Ok, Err, Option, Result, sym, refl, ap, ◌∙◌, arith, MatchResult}
use Rattle.std.specs.List.{flat_map, AllByRecursion}
use Rattle.std.proofs.lemmas.List.{append_assoc, append-nil, drop_all, drop_at, drop-drop, flat_map_more, length-append}
use Rattle.std.proofs.ByRecursion.{All-append}
use Rattle.card.specs.declared.contents.Contents.{Contents}
use Rattle.card.specs.declared.fault.Fault.{Fault}
use Rattle.card.specs.Encoding.{Entry, alternative, rule, end, encoding, Framed}
use Rattle.card.specs.Reading.{front, step}
use Rattle.card.specs.Walking.{Walk, preceded, onward, walk_by, walked, counted, nothing, answered, Closed, Open, Whole, Broken}
use Rattle.card.proofs.Framing.{Begins, front_begins, front_reads, encoding_some, step_fits}

onward_same : (r : Result Entry Fault) (f g : ℕ → Walk) → ((e : Entry) → r ≡ Ok e → f (length (encoding e)) ≡ g (length (encoding e))) → onward r f ≡ onward r g
onward_same (Err x) f g same = refl
onward_same (Ok end) f g same = refl
onward_same (Ok (alternative ws)) f g same = ap (preceded (alternative ws)) (same _ refl)
onward_same (Ok (rule h ls)) f g same = ap (preceded (rule h ls)) (same _ refl)

-- with steps enough to pass every byte, one number of steps is as good as another
same_walk : (n m : ℕ) (card : List ℕ) (at : ℕ) → length card < at + n → length card < at + m → walk_by n card at ≡ walk_by m card at
same_walk zero zero card at h k = refl
same_walk zero (suc m) card at h k = rw (drop_all at card (omega arith))
same_walk (suc n) zero card at h k = rw (drop_all at card (omega arith))
same_walk (suc n) (suc m) card at h k =
    onward_same (step card at) (λ s. walk_by n card (at + s)) (λ s. walk_by m card (at + s))
    (λ e is. let some = encoding_some e in same_walk n m card (at + length (encoding e)) (omega arith) (omega arith))

-- the walk from an offset on
abbrev pub walk_at : List ℕ → ℕ → Walk
walk_at card at = walk_by (suc (length card)) card at

pub walk_on : (card : List ℕ) (at : ℕ) (r : Result Entry Fault) → r ≡ step card at → walk_at card at ≡ onward r (λ s. walk_at card (at + s))
walk_on card at r is =
    onward_same (step card at) (λ s. walk_by (length card) card (at + s)) (λ s. walk_at card (at + s))
    (λ e h. let some = encoding_some e in same_walk (length card) (suc (length card)) card (at + length (encoding e)) (omega arith) (omega arith))
    ∙ ap (λ x. onward x (λ s. walk_at card (at + s))) (sym is)

-- which records were passed on the way to an offset
record Passed (card : List ℕ) (es : List Entry) (at : ℕ) : Type 0 where
  framed : AllByRecursion Framed es
  open_ended : Open es
  bytes : card ≡ flat_map encoding es ++ drop at card
  size : at ≡ length (flat_map encoding es)

open_push : (es : List Entry) (e : Entry) → Open es → Open (e ∷ []) → Open (es ++ (e ∷ []))
open_push [] e h k = k
open_push (alternative ws ∷ es) e h k = open_push es e h k
open_push (rule head ls ∷ es) e h k = open_push es e h k
open_push (end ∷ es) e h k = absurd h

closed_push : (es : List Entry) → Open es → Closed (es ++ (end ∷ []))
closed_push [] h = refl
closed_push (alternative ws ∷ es) h = closed_push es h
closed_push (rule head ls ∷ es) h = closed_push es h
closed_push (end ∷ es) h = absurd h

module _ (card : List ℕ) (es : List Entry) (at : ℕ) (p : Passed card es at) where
  within : at ≤ length card
  within = let both = ap length p.bytes ∙ length-append (flat_map encoding es) (drop at card) in omega (arith, p.size)

  -- the record at the offset, and what follows it
  module _ (e : Entry) (is : step card at ≡ Ok e) where
    begun : Begins (drop at card) e
    begun = front_begins at (drop at card) e is

    follows : drop (at + length (encoding e)) card ≡ begun.rest
    follows = sym (drop-drop (length (encoding e)) at card) ∙ ap (drop (length (encoding e))) begun.is ∙ drop_at (encoding e) begun.rest _ refl

    pushed : flat_map encoding (es ++ (e ∷ [])) ≡ flat_map encoding es ++ encoding e
    pushed = sym (flat_map_more encoding [] es e)

    bytes_more : card ≡ flat_map encoding (es ++ (e ∷ [])) ++ begun.rest
    bytes_more = p.bytes ∙ ap (λ bs. flat_map encoding es ++ bs) begun.is ∙ sym (append_assoc (flat_map encoding es) (encoding e) begun.rest) ∙ ap (λ bs. bs ++ begun.rest) (sym pushed)

    framed_more : AllByRecursion Framed (es ++ (e ∷ []))
    framed_more = All-append Framed es (e ∷ []) p.framed (begun.framed, tt)

    passed_more : Open (e ∷ []) → Passed card (es ++ (e ∷ [])) (at + length (encoding e))
    passed_more more = record {
      framed = framed_more;
      open_ended = open_push es e p.open_ended more;
      bytes = bytes_more ∙ ap (λ bs. flat_map encoding (es ++ (e ∷ [])) ++ bs) (sym follows);
      size = ap (λ n. n + length (encoding e)) p.size ∙ sym (length-append (flat_map encoding es) (encoding e)) ∙ ap length (sym pushed);
    }

  whole_at_end : step card at ≡ Ok end → Whole card (es ++ (end ∷ []))
  whole_at_end is = record {
    framed = framed_more end is;
    closed = closed_push es p.open_ended;
    bytes = bytes_more end is ∙ ap (λ bs. flat_map encoding (es ++ (end ∷ [])) ++ bs) ((begun end is).last refl) ∙ append-nil (flat_map encoding (es ++ (end ∷ [])));
  }

  broken_at : (f : Fault) → step card at ≡ Err f → Broken card es f
  broken_at f is = record {
    framed = p.framed;
    open_ended = p.open_ended;
    rest = drop at card;
    bytes = p.bytes;
    next = ap (step card) (sym p.size) ∙ is;
  }

abbrev pub Lawful : List ℕ → List Entry → Option Fault → Type 0
Lawful card es None = Whole card es
Lawful card es (Some f) = Broken card es f

lawful_by : (n : ℕ) (card : List ℕ) (es : List Entry) (at : ℕ) → length card < at + n → Passed card es at → Lawful card (es ++ (walk_by n card at).records) (walk_by n card at).fault
lawful_by zero card es at enough p = absurd (omega (arith, within card es at p))
lawful_by (suc n) card es at enough p =
    go (step card at) refl
    (λ e is more. let some = encoding_some e in lawful_by n card (es ++ (e ∷ [])) (at + length (encoding e)) (omega arith) (passed_more card es at p e is more))
  where
    go : (r : Result Entry Fault) → step card at ≡ r
        → ((e : Entry) → step card at ≡ Ok e → Open (e ∷ []) → Lawful card ((es ++ (e ∷ [])) ++ (walk_by n card (at + length (encoding e))).records) (walk_by n card (at + length (encoding e))).fault)
        → Lawful card (es ++ (onward r (λ s. walk_by n card (at + s))).records) (onward r (λ s. walk_by n card (at + s))).fault
    go (Err f) is next = rw append-nil (broken_at card es at p f is)
    go (Ok end) is next = whole_at_end card es at p is
    go (Ok (alternative ws)) is next = rw append_assoc at (next (alternative ws) is tt)
    go (Ok (rule head ls)) is next = rw append_assoc at (next (rule head ls) is tt)

pub walked_lawful : (card : List ℕ) → Lawful card (walked card).records (walked card).fault
walked_lawful card = lawful_by (suc (length card)) card [] 0 (omega arith) (record { framed = tt; open_ended = tt; bytes = refl; size = refl })

-- records that stand on a card from an offset on, the end record last, are what the walk finds there
module _ (es : List Entry) (before : List ℕ) (e : Entry) (framed : Framed e) where
  step_finds : (e ≡ end → flat_map encoding es ≡ []) → Ok e ≡ step (before ++ flat_map encoding (e ∷ es)) (length before)
  step_finds last = sym (ap (front (length before)) (drop_at before (flat_map encoding (e ∷ es)) _ refl) ∙ front_reads (length before) e (flat_map encoding es) framed last)

  walk_passes : (last : e ≡ end → flat_map encoding es ≡ []) → walk_at (before ++ flat_map encoding (e ∷ es)) (length before) ≡ onward (Ok e) (λ s. walk_at ((before ++ encoding e) ++ flat_map encoding es) (length before + s))
  walk_passes last =
      walk_on (before ++ flat_map encoding (e ∷ es)) (length before) (Ok e) (step_finds last)
      ∙ ap (λ card. onward (Ok e) (λ s. walk_at card (length before + s))) (sym (append_assoc before (encoding e) (flat_map encoding es)))

  next_found : walk_at ((before ++ encoding e) ++ flat_map encoding es) (length (before ++ encoding e)) ≡ record { records = es; fault = None }
      → walk_at ((before ++ encoding e) ++ flat_map encoding es) (length before + length (encoding e)) ≡ record { records = es; fault = None }
  next_found h = ap (walk_at ((before ++ encoding e) ++ flat_map encoding es)) (sym (length-append before (encoding e))) ∙ h

walk_finds : (es : List Entry) (before : List ℕ) → AllByRecursion Framed es → Closed es → walk_at (before ++ flat_map encoding es) (length before) ≡ record { records = es; fault = None }
walk_finds [] before framed closed = absurd closed
walk_finds (end ∷ es) before framed closed = walk_passes es before end framed.0 (λ same. ap (flat_map encoding) closed) ∙ ap (λ rest. record { records = end ∷ rest; fault = None }) (sym closed)
walk_finds (alternative ws ∷ es) before framed closed =
    walk_passes es before (alternative ws) framed.0 (λ same. let z : ◌≡◌ {A = ℕ} 0 1 = cc in absurd (omega arith))
    ∙ ap (preceded (alternative ws)) (next_found es before (alternative ws) framed.0 (walk_finds es (before ++ encoding (alternative ws)) framed.1 closed))
walk_finds (rule head ls ∷ es) before framed closed =
    walk_passes es before (rule head ls) framed.0 (λ same. let z : ◌≡◌ {A = ℕ} 0 1 = cc in absurd (omega arith))
    ∙ ap (preceded (rule head ls)) (next_found es before (rule head ls) framed.0 (walk_finds es (before ++ encoding (rule head ls)) framed.1 closed))

pub whole_walked : (card : List ℕ) (es : List Entry) → Whole card es → walked card ≡ record { records = es; fault = None }
whole_walked card es w = rw w.bytes (walk_finds es [] w.framed w.closed)

-- The answer of a walk, and its steps with what was counted before.
abbrev pub answer : Contents → Walk → Result Contents Fault
answer c w = answered c w.records w.fault

answered_next : (c : Contents) (e : Entry) (es : List Entry) (f : Option Fault) → answered c (e ∷ es) f ≡ answered (counted c (e ∷ [])) es f
answered_next c e es (Some f) = refl
answered_next c (alternative ws) es None = refl
answered_next c (rule head ls) es None = refl
answered_next c end es None = refl

-- a reader over the card has come to an offset: what was counted, with what the walk from there finds, is the whole answer
pub record Sofar (card seen : List ℕ) (at : ℕ) (c : Contents) : Type 0 where
  pub same : seen ≡ card
  pub inside : at ≤ length card
  pub few : c.alternatives + c.rules ≤ at
  pub rest : answer c (walk_at card at) ≡ answer nothing (walked card)

module _ (card seen : List ℕ) (at : ℕ) (c : Contents) (s : Sofar card seen at c) where
  here : (r : Result Entry Fault) → r ≡ step seen at → answer c (walk_at card at) ≡ answer c (onward r (λ s. walk_at card (at + s)))
  here r is = ap (answer c) (walk_on card at r (is ∙ ap (λ bs. step bs at) s.same))

  -- another record is read and counted
  pub sofar_more : (e : Entry) (seen' : List ℕ) (at' : ℕ) → seen' ≡ seen → Ok e ≡ step seen at → at' ≡ at + length (encoding e) → Open (e ∷ [])
      → Sofar card seen' at' (counted c (e ∷ [])) × (length card - at' < length card - at)
  sofar_more e seen' at' as_before is moved more =
      let fits = step_fits card at e (ap (λ bs. step bs at) (sym s.same) ∙ sym is) in
      let some = encoding_some e in
      (record { same = as_before ∙ s.same; inside = omega arith; few = rw moved (one e); rest = rw moved (next e is more ∙ s.rest) }, omega arith)
    where
      one : (e : Entry) → (counted c (e ∷ [])).alternatives + (counted c (e ∷ [])).rules ≤ at + length (encoding e)
      one (alternative ws) = omega (arith, s.few)
      one (rule head ls) = omega (arith, s.few)
      one end = omega (arith, s.few)

      next : (e : Entry) → Ok e ≡ step seen at → Open (e ∷ []) → answer (counted c (e ∷ [])) (walk_at card (at + length (encoding e))) ≡ answer c (walk_at card at)
      next (alternative ws) is more = sym (here (Ok (alternative ws)) is ∙ answered_next c (alternative ws) (walk_at card (at + length (encoding (alternative ws)))).records (walk_at card (at + length (encoding (alternative ws)))).fault)
      next (rule head ls) is more = sym (here (Ok (rule head ls)) is ∙ answered_next c (rule head ls) (walk_at card (at + length (encoding (rule head ls)))).records (walk_at card (at + length (encoding (rule head ls)))).fault)
      next end is more = absurd more

  pub sofar_end : Ok end ≡ step seen at → Ok c ≡ answer nothing (walked card)
  sofar_end is = sym (here (Ok end) is) ∙ s.rest

  pub sofar_fault : (f : Fault) → Err f ≡ step seen at → Err f ≡ answer nothing (walked card)
  sofar_fault f is = sym (here (Err f) is) ∙ s.rest

module _ (card : List ℕ) where
  pub answer_law : (r : Result Contents Fault) → r ≡ answer nothing (walked card) → MatchResult r (λ c. (es : List Entry) × Whole card es × (c ≡ counted nothing es)) (λ f. (es : List Entry) × Broken card es f)
  answer_law r is = rw is (go (walked card).records (walked card).fault (walked_lawful card))
    where
      go : (es : List Entry) (o : Option Fault) → Lawful card es o → MatchResult (answered nothing es o) (λ c. (es : List Entry) × Whole card es × (c ≡ counted nothing es)) (λ f. (es : List Entry) × Broken card es f)
      go es None h = (es, h, refl)
      go es (Some f) h = (es, h)

  pub answer_each : (r : Result Contents Fault) → r ≡ answer nothing (walked card) → (es : List Entry) → Whole card es → r ≡ Ok (counted nothing es)
  answer_each r is es w = is ∙ ap (answer nothing) (whole_walked card es w)
