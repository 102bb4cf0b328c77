-- Which record stands at an offset of a card, or which fault.
use Rattle.std.specs.Prelude.{ℕ, ◌+◌, ◌*◌, Bool, cond, ◌&&◌, List, [], ◌∷◌, length, take, drop, Ok, Err, codes, Result, ◌==◌, nat_le, slice_index}
use Prim.Native.String.{String}
use Rattle.card.specs.declared.fault.Fault.{Fault}
use Rattle.card.specs.declared.fault.Fault.TheVariants.{NumberOfChoices, NumberOfLiterals, UnknownTag, EndsEarly, BytesAfterEnd}
use Rattle.card.specs.declared.reader.Record.{Record}
use Rattle.card.specs.declared.reader.Record.TheVariants.{Alternative, Rule, End}
use Rattle.card.specs.Encoding.{Entry, alternative, rule, end, encoding}

-- the entry of a record made from the first `size` bytes, which must all be there
abbrev pub whole : ℕ → ℕ → List ℕ → (List ℕ → Entry) → Result Entry Fault
whole at size bytes make = cond (nat_le size (length bytes)) (Ok (make (take size bytes))) (Err (EndsEarly at))

-- what follows an alternative's tag: the number of choices is judged before the weights are looked for
abbrev pub after_al : ℕ → List ℕ → Result Entry Fault
after_al at [] = Err (EndsEarly at)
after_al at (n ∷ bytes) = cond (nat_le 2 n && nat_le n 8) (whole at (4 * n) bytes alternative) (Err (NumberOfChoices at))

-- what follows a rule's tag: the number of literals is judged before the literals are looked for
abbrev pub after_ru : ℕ → List ℕ → Result Entry Fault
after_ru at [] = Err (EndsEarly at)
after_ru at (head ∷ []) = Err (EndsEarly at)
after_ru at (head ∷ n ∷ bytes) = cond (nat_le n 8) (whole at (3 * n) bytes (rule head)) (Err (NumberOfLiterals at))

-- nothing follows the end record
abbrev pub after_en : ℕ → List ℕ → Result Entry Fault
after_en at [] = Ok end
after_en at (b ∷ bytes) = Err (BytesAfterEnd (at + 2))

-- the two bytes spell a tag
abbrev pub spells : String → ℕ → ℕ → Bool
spells tag a b = a == slice_index (codes tag) 0 && b == slice_index (codes tag) 1

-- the record whose tag is the bytes a and b, and `body` all that follows them
abbrev pub by_tag : ℕ → ℕ → ℕ → List ℕ → Result Entry Fault
by_tag at a b body =
    cond (spells "AL" a b) (after_al at body)
    (cond (spells "RU" a b) (after_ru at body)
    (cond (spells "EN" a b) (after_en at body) (Err (UnknownTag at))))

-- the record at the front of `bytes`, which stand at the offset `at` of the card
abbrev pub front : ℕ → List ℕ → Result Entry Fault
front at [] = Err (EndsEarly at)
front at (a ∷ []) = Err (EndsEarly at)
front at (a ∷ b ∷ body) = by_tag at a b body

-- the record at the offset `at` of a card
abbrev pub step : List ℕ → ℕ → Result Entry Fault
step card at = front at (drop at card)

-- a record that was read, as bytes
abbrev pub entry : Record → Entry
entry (Alternative weights) = alternative weights.now
entry (Rule head literals) = rule head literals.now
entry End = end

abbrev pub told : Result Record Fault → Result Entry Fault
told (Ok r) = Ok (entry r)
told (Err f) = Err f

-- how many bytes an answer moves on: the record's, or none
abbrev pub moved : Result Entry Fault → ℕ
moved (Ok e) = length (encoding e)
moved (Err f) = 0
