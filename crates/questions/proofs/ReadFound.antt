-- A question that is found, as it is read: its items fill their bytes. Assumes nothing.
use Prim.Native.Nat.{ℕ, ◌*◌, ◌/◌, ◌≤◌}
use mathlib.Core.Path.{◌≡◌}
use mathlib.Core.List.{List}
use native.Mathlib.Omega.{arith}
use lib.ListN.{length}
use Rattle.std.specs.Prelude.{Ok}
use Rattle.records.proofs.InBytes as InBytes
use Rattle.paper.specs.Read.{read_of}
use Rattle.paper.specs.Found.{found_as, asked as asked_there}
use Rattle.paper.specs.declared.question.Accepted.{Accepted}
use Rattle.questions.specs.InCode.{told, zeros_past}
use Rattle.questions.specs.declared.question.Items.{Items}
use Rattle.questions.proofs.CountedItems.{Filled, counted_kept, zeros_kept}
use Rattle.questions.proofs.AcceptedQuestions.{events_counted, readings_counted}

module _ (a : Accepted) where
  pub few_events : length a.events.now ≤ 24
  few_events = omega (arith, (events_counted (asked_there a) a.accepted).1, a.events_whole)

  pub few_readings : length a.readings.now ≤ 24
  few_readings = omega (arith, readings_counted (asked_there a) a.accepted, a.readings_whole)

  whole_events : length a.events.now ≡ 2 * (length a.events.now / 2)
  whole_events = omega (arith, a.events_whole, InBytes.events_counted a.events.now)

  whole_readings : length a.readings.now ≡ 3 * (length a.readings.now / 3)
  whole_readings = omega (arith, a.readings_whole, InBytes.readings_counted a.readings.now)

  module _ (events : Items 2) (readings : Items 3) (f : Filled 2 a.events.now events) (g : Filled 3 a.readings.now readings) where
    pub items_read : (bytes : List ℕ) → found_as (Ok a) ≡ read_of bytes
        → told (Ok (record { plan = a.plan; situation = a.situation; events = events; readings = readings; length = a.length })) ≡ read_of bytes
    items_read bytes e = rw (counted_kept 2 a.events.now whole_events events f, counted_kept 3 a.readings.now whole_readings readings g) e

    pub zeros_read : (zeros_past 2 events ≡ events) × (zeros_past 3 readings ≡ readings)
    zeros_read = (zeros_kept 2 a.events.now whole_events events f, zeros_kept 3 a.readings.now whole_readings readings g)
