-- Sessions: which calls are accepted, and the journal after a list of calls. The journal alone decides it.
use Rattle.std.specs.Prelude.{Bool, true, List, [], ◌∷◌, ◌++◌, map, length, take, drop, is_ok}
use Rattle.rows.specs.Keeping.{kept_all}
use Rattle.model.specs.declared.rule.Rule.{Rule}
use Rattle.model.specs.Journal as journal
use Rattle.model.specs.Journal.{Journal, declares, weighs, states, checks, supposes, ends, asks, feed, as_rule}
use Rattle.model.specs.Models.{declaring, weighing, stating}
use Rattle.model.specs.Rules.{rule_below, rule_before, listing}
use Rattle.model.specs.Supposed.{checking}
use Rattle.session.specs.declared.call.Call.{Call}
use Rattle.session.specs.declared.call.Call.TheVariants.{Declare, SetWeight, State, Check, Suppose, End}

-- a call as a journal speaks of it
abbrev pub called : Call → journal.Call
called (Declare weights) = declares weights.now
called (SetWeight a c w) = weighs a c w
called (State head body) = states head body.now
called (Check a c) = checks a c
called (Suppose a c) = supposes a c
called End = ends

-- what is kept of rules where there is room for all of them: the minimal ones, each once and in order
abbrev pub kept_rules : List Rule → List Rule
kept_rules rules = listing (kept_all rule_below rule_before (length rules) [] rules)

-- whether a session with this journal accepts a call. Beginnings and ends of supposings and questions are never refused
abbrev pub accepts : Journal → journal.Call → Bool
accepts j (declares weights) = is_ok (declaring j.declared weights)
accepts j (weighs a c w) = is_ok (weighing j.declared a c w)
accepts j (states head body) = is_ok (stating j.declared (kept_rules (map as_rule j.stated)) head body)
accepts j (checks a c) = is_ok (checking j.declared j.supposed a c)
accepts j (supposes a c) = true
accepts j ends = true
accepts j (asks goal) = true

-- the journal after a list of calls, each accepted or not
abbrev pub after : Journal → List journal.Call → Journal
after j [] = j
after j (c ∷ cs) = after (feed j c (accepts j c)) cs

-- which of a list of calls are accepted
abbrev pub acceptances : Journal → List journal.Call → List Bool
acceptances j [] = []
acceptances j (c ∷ cs) = accepts j c ∷ acceptances (feed j c (accepts j c)) cs

-- flags of which the first give way to new ones, as many as there are places
abbrev pub overwritten : List Bool → List Bool → List Bool
overwritten flags new = take (length flags) new ++ drop (length new) flags
