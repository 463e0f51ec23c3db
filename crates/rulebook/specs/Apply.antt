-- "An event is two bytes, code and argument." An event applied: "Order: .. 1, 2, 3, 4, .. then the event's own."
use Rattle.std.specs.Prelude.{ℕ, Bool, not, List, [], ◌∷◌, eqb, leb, if◌then◌else◌}
use Rattle.words.specs.Words.{◌or◌}
use Rattle.block.specs.Line.{is_section, owner, station_named, direction_of, section_of, is_block_signal}
use Rattle.rulebook.specs.Situation.{Situation, Kept, seen_from, kept_from}
use Rattle.rulebook.specs.Judged.{judged}
use Rattle.rulebook.specs.Checks.{refusal, effect}
use Rattle.rulebook.specs.Pending.{pending_settled}
use Rattle.rulebook.specs.Place.{place}
use Rattle.rulebook.specs.Table.{Kind, signal, section, nothing, kind_of}
use Rattle.block.specs.declared.line.Plan.{Plan}
use Rattle.block.specs.declared.line.Name.{Name}
use Rattle.block.specs.declared.event.Spot.{Spot}
use Rattle.block.specs.declared.event.Event.{Event}

-- ---- a kind of event at a spot, as own sees it
-- what it is refused for
abbrev pub refuses : Kind → Spot → Situation → ℕ
refuses e at x = refusal (e.row (place at x) x)

-- where it leads where it is accepted: its row's effect, with the rule for pending
abbrev pub leads : Kind → Spot → Situation → Situation
leads e at x = pending_settled e.clears_pending x (effect (e.row (place at x) x))

-- ---- and of a situation as it is kept
module _ (e : Kind) (at : Spot) (x : Kept) where
  unfoldable pub refusal_at : ℕ
  refusal_at = refuses e at (seen_from at.own x)

  unfoldable pub led_at : Kept
  led_at = kept_from at.own (leads e at (seen_from at.own x))

-- ---- what an event's two bytes say
abbrev pub event : ℕ → ℕ → Event
event c a = record { code = c; argument = a }

abbrev pub known : Event → Bool
known e = not (eqb (kind_of e.code).argument 0)

-- "4 argument": of a station, a block signal, a section, nothing
abbrev pub fits : Plan → ℕ → ℕ → Bool
fits p names arg =
    if eqb names signal then is_block_signal p arg else
    if eqb names section then is_section p arg else
    if eqb names nothing then eqb arg 0 else
    leb arg 1

abbrev pub argument_right : Plan → Event → Bool
argument_right p e = fits p (kind_of e.code).argument e.argument

-- ""Own" is the station named"; of a section or a signal it is the owner, of the link, and of a second, A stands for it
abbrev pub named : Plan → ℕ → ℕ → Name
named p names arg =
    if eqb names signal or eqb names section then owner p (section_of arg) else
    station_named arg

abbrev pub spot_named : Plan → ℕ → ℕ → Spot
spot_named p names arg = record { plan = p; own = named p names arg; section = section_of arg; direction = direction_of arg }

abbrev pub spot : Plan → Event → Spot
spot p e = spot_named p (kind_of e.code).argument e.argument

-- ---- the outcome: the refusal, 0 where the event is accepted, and the situation after
pub record Outcome : Type 0 where
  pub refusal : ℕ
  pub next : Kept

abbrev pub accepted : Kept → Outcome
accepted y = record { refusal = 0; next = y }

-- "a refused event hands the situation back unchanged"
abbrev pub refused : ℕ → Kept → Outcome
refused n x = record { refusal = n; next = x }

module _ (p : Plan) (x : Kept) (e : Event) where
  abbrev pub own_refusal : ℕ
  own_refusal = refusal_at (kind_of e.code) (spot p e) x

  abbrev pub reached : Kept
  reached = led_at (kind_of e.code) (spot p e) x

  unfoldable pub acted : Outcome
  acted = if eqb own_refusal 0 then accepted reached else refused own_refusal x

  -- for a plan and a situation that are judged already
  unfoldable pub stepped : Outcome
  stepped =
      if not (known e) then refused 3 x else
      if not (argument_right p e) then refused 4 x else
      acted

  abbrev pub applied : Outcome
  applied = if eqb (judged p x) 0 then stepped else refused (judged p x) x

-- ---- events one after the other, each where the one before has led
abbrev pub along : (Kept → Event → Outcome) → Kept → List Event → List Outcome
along f x [] = []
along f x (e ∷ events) = f x e ∷ along f (f x e).next events

-- the situation at the end
abbrev pub at_the_end : Kept → List Outcome → Kept
at_the_end x [] = x
at_the_end x (o ∷ rest) = at_the_end o.next rest

-- after any events, unknown codes and wrong arguments too: each leads on as it is applied, and a refused one leaves the situation
abbrev pub after_events : Plan → Kept → List Event → Kept
after_events p x events = at_the_end x (along (applied p) x events)
