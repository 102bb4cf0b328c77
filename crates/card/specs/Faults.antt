-- What each fault of a card has as its number, its offset and its place.
use Rattle.std.specs.Prelude.{ℕ, List, ◌++◌, codes, decimal}
use Rattle.card.specs.declared.fault.Fault.{Fault}
use Rattle.card.specs.declared.fault.Fault.TheVariants.{NumberOfChoices, NumberOfLiterals, UnknownTag, EndsEarly, BytesAfterEnd, Refused}
use Rattle.model.specs.Refusals as model

-- the refusal of a model call has its own number and place
abbrev pub number : Fault → ℕ
number (NumberOfChoices at) = 1
number (NumberOfLiterals at) = 3
number (UnknownTag at) = 6
number (EndsEarly at) = 7
number (BytesAfterEnd at) = 8
number (Refused at refusal) = model.number refusal

abbrev pub offset : Fault → ℕ
offset (NumberOfChoices at) = at
offset (NumberOfLiterals at) = at
offset (UnknownTag at) = at
offset (EndsEarly at) = at
offset (BytesAfterEnd at) = at
offset (Refused at refusal) = at

-- no literal is concerned, unless the model refused one
abbrev pub place : Fault → ℕ
place (NumberOfChoices at) = 0
place (NumberOfLiterals at) = 0
place (UnknownTag at) = 0
place (EndsEarly at) = 0
place (BytesAfterEnd at) = 0
place (Refused at refusal) = model.place refusal

-- how a refused card is told: its number, offset and place in base ten
abbrev pub refusal_text : Fault → List ℕ
refusal_text f = codes "card " ++ (decimal (number f) ++ (codes " " ++ (decimal (offset f) ++ (codes " " ++ decimal (place f)))))
