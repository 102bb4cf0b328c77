-- How far a run has come in a list of calls.
use Rattle.std.specs.Prelude.{◌≡◌, ℕ, suc, ◌+◌, ◌<◌, Bool, true, List, [], ◌∷◌, map, length, slice_set}
use Rattle.std.specs.Iterator.Adapters.{enumerate_source, enumerate_count}
use Rattle.std.specs.Slice.Iter.{iter_rest}
use Rattle.std.specs.declared.iter.Enumerate.{Enumerate}
use Rattle.std.specs.declared.slice.Iter.{Iter}
use Rattle.std.specs.declared.ops.ControlFlow.{ControlFlow}
use Rattle.std.specs.declared.ops.ControlFlow.TheVariants.{Continue, Break}
use Rattle.model.specs.declared.model.Model.{Model}
use Rattle.model.specs.declared.suppositions.Suppositions.{Suppositions}
use Rattle.model.specs.Journal as journal
use Rattle.model.specs.Journal.{Journal, declares, weighs, states, checks, supposes, ends, asks, feed, Agrees}
use Rattle.session.specs.declared.call.Call.{Call}
use Rattle.session.specs.declared.call.Call.TheVariants.{Declare, SetWeight, State, Check, Suppose, End}
use Rattle.session.specs.Sessions.{called, accepts, after, acceptances}

-- the journal after a call, but for the beginning and the end of a supposing, which stay to be fed
abbrev pub answered : Journal → journal.Call → Journal
answered j (declares weights) = feed j (declares weights) (accepts j (declares weights))
answered j (weighs a c w) = feed j (weighs a c w) (accepts j (weighs a c w))
answered j (states head body) = feed j (states head body) (accepts j (states head body))
answered j (checks a c) = j
answered j (supposes a c) = j
answered j ends = j
answered j (asks goal) = j

-- flags with new ones in place, one after another from a place on
abbrev pub flagged : List Bool → ℕ → List Bool → List Bool
flagged flags at [] = flags
flagged flags at (new ∷ news) = flagged (slice_set flags at new) (suc at) news

-- all of `calls` after the journal j lead where those that are left of them lead after k: to one journal, and to the same
-- flags, of which those from the place `from` up to `at` are written already
pub record Leads (j k : Journal) (calls rest : List Call) (from at : ℕ) (before behind : List Bool) : Type 0 where
  pub journal : after j (map called calls) ≡ after k (map called rest)
  pub flags : flagged before from (acceptances j (map called calls)) ≡ flagged behind at (acceptances k (map called rest))

-- a run that was begun with the journal j has come to where a journal agrees with the session, and `more` is fed to it next
pub record Reached (j : Journal) (more : Journal → Journal) (calls rest : List Call) (from at : ℕ) (before behind : List Bool) (m : Model) (s : Suppositions) : Type 0 where
  pub here : Journal
  pub notes : here.notes ≡ j.notes
  pub agrees : Agrees here m s
  pub leads : Leads j (more here) calls rest from at before behind

-- a run that is done has come to the end of the calls
pub record Finished (j : Journal) (calls : List Call) (from : ℕ) (before behind : List Bool) (m : Model) (s : Suppositions) : Type 0 where
  pub agrees : Agrees (after j (map called calls)) m s
  pub flags : behind ≡ flagged before from (acceptances j (map called calls))

-- the calls that are left, and the place of the first of them among all
abbrev pub left : Enumerate (Iter Call) → List Call
left calls = iter_rest (enumerate_source calls)

abbrev pub place : Enumerate (Iter Call) → ℕ
place calls = enumerate_count calls

-- what is fed next once a call was made: an end, where it is one
abbrev pub ending : Call → Journal → Journal
ending (Declare weights) k = k
ending (SetWeight a c w) k = k
ending (State head body) k = k
ending (Check a c) k = k
ending (Suppose a c) k = k
ending End k = feed k ends true

-- what a run from a place on answers: it stopped, and `more` is fed next, or it is done
abbrev pub Ran : (Journal → Journal) → ControlFlow Suppositions (Unit {0}) → Journal → List Call → ℕ → Enumerate (Iter Call) → List Bool → List Bool → Model → Suppositions → Type 0
Ran more (Continue _) j calls from rest before behind m s = Reached j more calls (left rest) from (place rest) before behind m s
Ran more (Break t) j calls from rest before behind m s = Finished j calls from before behind m t

-- a run that stops has come on, and the places count the calls that it made
abbrev pub Stopped : ControlFlow Suppositions (Unit {0}) → List Call → ℕ → Enumerate (Iter Call) → Type 0
Stopped (Continue _) calls from rest = (length (left rest) < length calls) × (place rest + length (left rest) ≡ from + length calls)
Stopped (Break t) calls from rest = Unit {0}
