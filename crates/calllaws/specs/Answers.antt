-- Right sequences as sequences of events: by the event as it is applied and the readings as they are read, and by nothing of a key.
use Rattle.std.specs.Prelude.{◌≤◌, ◌≡◌, true, length as size}
use mathlib.Core.List.{List, [], ◌∷◌, map, Memᴰ}
use Rattle.keylaws.specs.Rules.{Word}
use Rattle.block.specs.declared.event.Event.{Event}
use Rattle.rulebook.specs.Apply.{applied, Outcome, along, at_the_end}
use Rattle.records.specs.Lists.{event_at}
use Rattle.rules.specs.RulesOf.{all_hold}
use Rattle.paper.specs.Question.{Question}
use Rattle.keys.specs.Key.{key_of}

-- the events at a sequence's places in EV
abbrev pub events_of : Question → Word → List Event
events_of q w = map (event_at q.events) w

-- the key as sequences of events
abbrev pub events_in_key : Question → List (List Event)
events_in_key q = map (events_of q) (key_of q)

-- what the events give, one after the other
abbrev pub outcomes : Question → List Event → List Outcome
outcomes q events = along (applied q.plan) q.situation events

abbrev pub AllAccepted : List Outcome → Type 0
AllAccepted [] = Unit {0}
AllAccepted (o ∷ rest) = (o.refusal ≡ 0) × AllAccepted rest

-- all are permitted
abbrev pub Permitted : Question → List Event → Type 0
Permitted q [] = Unit {0}
Permitted q (e ∷ events) = (Memᴰ e q.events) × Permitted q events

-- a sequence of permitted events, up to the question's length, in which each event is accepted in its turn and every reading holds at the end
pub record Right (q : Question) (events : List Event) : Type 0 where
  pub short : size events ≤ q.length
  pub permitted : Permitted q events
  pub accepted : AllAccepted (outcomes q events)
  pub readings : all_hold q.plan q.readings (at_the_end q.situation (outcomes q events)) ≡ true
