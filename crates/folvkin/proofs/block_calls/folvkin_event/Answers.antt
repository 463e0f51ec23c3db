use mathlib.Core.Path.{refl}
use borrow.Author.Tests.{eq-eqb, ne_eqb}
use Rattle.folvkin.proofs.block_calls.folvkin_event.Goals as goal

pub returns-then-event-ne-EVENT-clause-value : goal.returns-then-event-ne-EVENT-clause-value
returns-then-event-ne-EVENT-clause-value c = rw (← c.in-Some.ensures, ne_eqb _ _ c.if-event-ne-EVENT.true) c.from-then-event-ne-EVENT.ensures

pub returns-then-event-ne-EVENT-clause-room_after : goal.returns-then-event-ne-EVENT-clause-room_after
returns-then-event-ne-EVENT-clause-room_after c = rw (← c.in-Some.ensures, ne_eqb _ _ c.if-event-ne-EVENT.true) refl

pub returns : goal.returns
returns c =
    let f = eq-eqb _ _ c.if-event-ne-EVENT.false in
    record {
      value = rw (← c.in-Some.ensures, f) c.event_written.ensures.value;
      room_after = rw (← c.in-Some.ensures, f) c.event_written.ensures.room_after;
    }
