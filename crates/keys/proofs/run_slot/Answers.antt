use mathlib.Core.Path.{refl, ◌∙◌}
use native.Mathlib.Omega.{arith}
use Rattle.keys.proofs.Accepted.{limits, right_there}
use Rattle.keys.proofs.SixBytes.{slot_six, slot_first}
use Rattle.keys.proofs.PlacesOfASlot.{places, places_permitted}
use Rattle.keys.proofs.run_slot.Goals as goal

pub bounds-slot-0 : goal.bounds-slot-0
bounds-slot-0 c = omega (arith, slot_six _ _ (limits c.args.q.now).0 _ c.requires)

pub slice_bounds-run_places-end : goal.slice_bounds-run_places-end
slice_bounds-run_places-end c =
    let short = (limits c.args.q.now).0 in
    omega (arith, c.from-end.ensures, slot_six _ _ short _ c.requires, slot_first _ _ short _ c.requires)

pub run_places-requires-clause-places_len_bound : goal.run_places-requires-clause-places_len_bound
run_places-requires-clause-places_len_bound c =
    let q = c.args.q.now in
    rw (← q.counted) (places_permitted _ _ c.from-end.ensures _ _ (limits q).0 c.requires)

pub run_places-requires-clause-events_value : goal.run_places-requires-clause-events_value
run_places-requires-clause-events_value c = right_there c.args.q.now

pub returns-clause-result_value : goal.returns-clause-result_value
returns-clause-result_value c = c.run_places.ensures.result_value ∙ rw (places _ _ c.from-end.ensures) refl

pub returns-clause-name_value : goal.returns-clause-name_value
returns-clause-name_value c = c.run_places.ensures.name_value ∙ rw (places _ _ c.from-end.ensures) refl
