use mathlib.Core.Path.{◌≡◌, refl, sym, ◌∙◌}
use mathlib.Core.Bool.{Bool}
use Rattle.std.proofs.Common.{ℕ, List}
use Rattle.keylaws.specs.Slots.{is_slot}
use Rattle.paper.specs.Found.{asked}
use Rattle.paper.specs.declared.question.Accepted.{Accepted}
use Rattle.keys.specs.Key.{rules}
use Rattle.keys.specs.Calls.{slot_run}
use Rattle.keys.proofs.run_in.Goals as goal

-- what the code's test says of the slot
judged : (q : Accepted) (slot : List ℕ) {v : Bool} → is_slot q.count q.length slot ≡ v → is_slot (rules (asked q)).events (asked q).length slot ≡ v
judged q slot e = rw (← q.counted) e

pub returns-then-not-is_slot : goal.returns-then-not-is_slot
unfolding slot_run
returns-then-not-is_slot c = rw (judged c.args.q.now c.args.slot.now (sym c.is_slot.ensures ∙ c.if-not-is_slot.true)) refl

pub returns : goal.returns
unfolding slot_run
returns c = rw (judged c.args.q.now c.args.slot.now (sym c.is_slot.ensures ∙ c.if-not-is_slot.false), ← c.run_slot.ensures.result_value, ← c.run_slot.ensures.name_value) refl
