-- The records of a whole card, one after the other, up to its end or its first fault.
use Rattle.std.specs.Prelude.{◌≡◌, ℕ, zero, suc, ◌+◌, List, [], ◌∷◌, ◌++◌, length, Some, None, Ok, Err, codes, decimal, Option, Result}
use Rattle.std.specs.List.{flat_map, AllByRecursion}
use Rattle.card.specs.declared.contents.Contents.{Contents}
use Rattle.card.specs.declared.fault.Fault.{Fault}
use Rattle.card.specs.declared.fault.Fault.TheVariants.{EndsEarly}
use Rattle.card.specs.Encoding.{Entry, alternative, rule, end, encoding, Framed}
use Rattle.card.specs.Reading.{step}

-- the records that were read, and the fault that stopped the walk, if one did
pub record Walk : Type 0 where
  pub records : List Entry
  pub fault : Option Fault

abbrev pub stopped : Fault → Walk
stopped f = record { records = []; fault = Some f }

abbrev pub preceded : Entry → Walk → Walk
preceded e w = record { records = e ∷ w.records; fault = w.fault }

-- after what stands at an offset: a fault and the end record stop the walk, any other record goes on behind its bytes
abbrev pub onward : Result Entry Fault → (ℕ → Walk) → Walk
onward (Err f) go = stopped f
onward (Ok end) go = record { records = end ∷ []; fault = None }
onward (Ok (alternative weights)) go = preceded (alternative weights) (go (length (encoding (alternative weights))))
onward (Ok (rule head literals)) go = preceded (rule head literals) (go (length (encoding (rule head literals))))

-- the walk from an offset on, by at most so many steps
abbrev pub walk_by : ℕ → List ℕ → ℕ → Walk
walk_by zero card at = stopped (EndsEarly at)
walk_by (suc n) card at = onward (step card at) (λ size. walk_by n card (at + size))

-- the walk over a card: each step passes a byte at least, so one more step than there are bytes is enough
abbrev pub walked : List ℕ → Walk
walked card = walk_by (suc (length card)) card 0

-- how many alternatives and rules there are, with those counted before
abbrev pub counted : Contents → List Entry → Contents
counted c [] = c
counted c (alternative weights ∷ es) = counted (record { alternatives = c.alternatives + 1; rules = c.rules }) es
counted c (rule head literals ∷ es) = counted (record { alternatives = c.alternatives; rules = c.rules + 1 }) es
counted c (end ∷ es) = counted c es

abbrev pub nothing : Contents
nothing = record { alternatives = 0; rules = 0 }

-- what a walk is answered with: its fault, or what is on the card
abbrev pub answered : Contents → List Entry → Option Fault → Result Contents Fault
answered c es None = Ok (counted c es)
answered c es (Some f) = Err f

-- how it is told what is on a card
abbrev pub contents_text : Contents → List ℕ
contents_text c = codes "alternatives " ++ (decimal c.alternatives ++ (codes " rules " ++ decimal c.rules))

-- the last record is the end record, and no other is
abbrev pub Closed : List Entry → Type 0
Closed [] = ⊥
Closed (end ∷ es) = es ≡ []
Closed (alternative weights ∷ es) = Closed es
Closed (rule head literals ∷ es) = Closed es

-- no record is the end record
abbrev pub Open : List Entry → Type 0
Open [] = Unit {0}
Open (end ∷ es) = ⊥
Open (alternative weights ∷ es) = Open es
Open (rule head literals ∷ es) = Open es

-- the card is exactly these records, one after the other, the end record last and only there
pub record Whole (card : List ℕ) (es : List Entry) : Type 0 where
  pub framed : AllByRecursion Framed es
  pub closed : Closed es
  pub bytes : card ≡ flat_map encoding es

-- the card begins with these records, the end record not among them, and has the fault right behind them
pub record Broken (card : List ℕ) (es : List Entry) (f : Fault) : Type 0 where
  pub framed : AllByRecursion Framed es
  pub open_ended : Open es
  pub rest : List ℕ
  pub bytes : card ≡ flat_map encoding es ++ rest
  pub next : step card (length (flat_map encoding es)) ≡ Err f
