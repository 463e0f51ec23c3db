-- What a caller may count on of an accepted question: the plan is one and the situation sound, "EV, count 1..12", "RD, count 0..6", each event
-- known and its argument right, no "event listed twice", each reading in range, "LN, length 0..5"; and a question that was read is accepted.
-- Assumes nothing.
use Prim.Native.Nat.{ℕ, ◌≤◌, ◌<◌}
use mathlib.Core.Path.{◌≡◌}
use mathlib.Core.Bool.{false}
use lib.ListN.{length, get_or}
use lib.Dec.{T}
use Rattle.block.specs.Line.{is_plan}
use Rattle.rulebook.specs.Sound.{sound}
use Rattle.rulebook.specs.Apply.{known, argument_right}
use Rattle.block.specs.declared.event.Event.{Event}
use Rattle.block.specs.declared.reading.Reading.{Reading}
use Rattle.signals.specs.Readings.{reading_in_range}
use Rattle.lists.specs.Refusal.{listed_twice}
use Rattle.lists.proofs.RightLists.{each_event, each_reading, ListsRight, lists_right}
use Rattle.paper.specs.Question.{Question}
use Rattle.paper.specs.Refusal.{refusal_of}
use Rattle.paper.proofs.Accepted.{accepted}

module _ (q : Question) (ok : refusal_of q ≡ 0) where
  pub plan_is_one : T (is_plan q.plan)
  plan_is_one = (accepted q ok).plan

  pub situation_is_sound : T (sound q.plan q.situation)
  situation_is_sound = (accepted q ok).situation

  pub events_counted : (1 ≤ length q.events) × (length q.events ≤ 12)
  events_counted = let c = (accepted q ok).counts in (c.0, c.1)

  pub readings_counted : length q.readings ≤ 6
  readings_counted = (accepted q ok).counts.2

  lists : ListsRight q.plan q.events q.readings q.length
  lists = lists_right q.plan q.events q.readings q.length (accepted q ok).lists

  -- d is what would be read past the end
  pub event_is_right : (d : Event) (i : ℕ) → i < length q.events → T (known (get_or q.events i d)) × T (argument_right q.plan (get_or q.events i d))
  event_is_right d i l = each_event q.plan q.events d i l lists.events_right

  pub listed_once : listed_twice q.events ≡ false
  listed_once = lists.once

  pub reading_is_right : (d : Reading) (i : ℕ) → i < length q.readings → T (reading_in_range q.plan (get_or q.readings i d).kind (get_or q.readings i d).argument (get_or q.readings i d).value)
  reading_is_right d i l = each_reading q.plan q.readings d i l lists.readings_right

  pub length_at_most_5 : q.length ≤ 5
  length_at_most_5 = lists.short
