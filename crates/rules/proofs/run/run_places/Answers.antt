-- The loop's invariant: the run from the i-th place on, counted from 0, gives and names what the whole run does. The measure is what is left of the places.
use Rattle.std.specs.Prelude.{if◌then◌else◌}
use Prim.Native.Nat.{ℕ, ◌+◌}
use mathlib.Core.Path.{◌≡◌, refl, sym, ap, ◌∙◌}
use native.Mathlib.Omega.{arith}
use lib.ListN.{drop, get_or}
use borrow.Author.Rules.{rules}
use borrow.Author.Tests.{eq-eqb, ne_eqb}
use mathlib.Core.Bool.{Bool, cond}
use Rattle.keylaws.specs.Run.{Outcome, run_from, stopped}
use Rattle.block.proofs.Told.{not_accepted}
use Rattle.rulebook.specs.Situation.{Kept}
use Rattle.rulebook.specs.Apply.{own_refusal}
use Rattle.rulebook.specs.Names.{name}
use Rattle.situation.specs.Packed.{unpacked}
use Rattle.records.specs.Lists.{event_at}
use Rattle.records.specs.InBytes.{events_in, readings_in}
use Rattle.records.proofs.InBytes.{events_counted}
use Rattle.rules.specs.RulesOf.{rules_of, name_told}
use Rattle.rules.proofs.RunSteps.{run_end, run_step, name_end, name_step}
use Rattle.rules.proofs.EachEvent.{tried_refusal, tried_next}
use Rattle.rules.proofs.run.run_places.Goals as goal

pub loop-i-preserved : goal.loop-i-preserved
loop-i-preserved c =
    let a = c.args in
    let R = rules_of a.plan (events_in a.events.now) (readings_in a.readings.now) in
    let l = c.loop-i in
    let place = get_or a.places.now l.i 0 in
    let on : Kept → Outcome = λ y. run_from R y (l.i + 1 + 1) (drop (l.i + 1) a.places.now) in
    let permitted = c.requires.places_len_bound.1 l.i (omega arith) in
    let event = c.event_at-event.ensures ∙ ap (event_at (events_in a.events.now)) c.from.ensures in
    let passed : 0 ≡ own_refusal a.plan (unpacked l.x) c.event_at-event.result = search rules in
    let accepted = sym (tried_refusal a.plan (unpacked l.x) (events_in a.events.now) place event permitted.0 permitted.1 c.requires.events_value.0 passed) in
    let led = sym (tried_next a.plan (unpacked l.x) (events_in a.events.now) place event accepted c.next-x.ensures) in
    let named : Kept → ℕ = λ y. name_told a.plan (events_in a.events.now) y (drop (l.i + 1) a.places.now) in
    let next = R.next (unpacked l.x) place in
    let refused = R.refusal (unpacked l.x) place in record {
      within = omega arith;
      run_is = sym (sym l.invariant.run_is ∙ run_step R (unpacked l.x) a.places.now l.i (omega arith) ∙ ap (λ (v : Bool). cond v (on next) (stopped (l.i + 1) refused)) (eq-eqb _ 0 accepted) ∙ ap on led);
      name_is = sym (sym l.invariant.name_is ∙ name_step a.plan (events_in a.events.now) (unpacked l.x) a.places.now l.i (omega arith) ∙ ap (λ (v : Bool). if v then named next else name a.plan (unpacked l.x) (event_at (events_in a.events.now) place) refused) (eq-eqb _ 0 accepted) ∙ ap named led);
    }

pub returns-then-i-places : goal.returns-then-i-places
returns-then-i-places c =
    let a = c.args in
    let l = c.loop-i in record { result_value = rw c.all_hold.ensures (sym (sym l.invariant.run_is ∙ run_end _ _ _ _ (omega arith))); name_value = sym (sym l.invariant.name_is ∙ name_end a.plan (events_in a.events.now) (unpacked l.x) a.places.now l.i (omega arith)) }

pub returns-in-Err : goal.returns-in-Err
returns-in-Err c =
    let a = c.args in
    let l = c.loop-i in
    let permitted = c.requires.places_len_bound.1 l.i (omega arith) in
    let event = c.event_at-event.ensures ∙ ap (event_at (events_in a.events.now)) c.from.ensures in
    let told = tried_refusal a.plan (unpacked l.x) (events_in a.events.now) (get_or a.places.now l.i 0) event permitted.0 permitted.1 c.requires.events_value.0 c.in-Err.ensures.value in
    let refused = ne_eqb _ 0 (λ z. not_accepted c.in-Err.refusal (told ∙ z)) in record { result_value = sym (sym l.invariant.run_is ∙ run_step _ _ _ _ (omega arith) ∙ rw (refused, told) refl); name_value = sym (sym l.invariant.name_is ∙ name_step a.plan (events_in a.events.now) (unpacked l.x) a.places.now l.i (omega arith) ∙ rw (refused, ← told, ← event, ← c.from-in-Err.ensures) (sym c.name_of.ensures)) }

pub event_at-event-requires : goal.event_at-event-requires
event_at-event-requires c = omega (arith, c.requires.places_len_bound.1 c.loop-i.i (omega arith), events_counted c.args.events.now)
