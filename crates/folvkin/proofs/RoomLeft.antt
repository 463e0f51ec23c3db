-- An event is accepted only in a room that has been judged, and leads from a sound situation to a sound one: the record after it fits its room
-- and has its fields. Assumes nothing.
use Prim.Native.Nat.{ℕ, ◌≤◌}
use mathlib.Core.Path.{◌≡◌}
use mathlib.Core.Bool.{true}
use borrow.Author.Tests.{leb-true, eq-eqb}
use lib.Dec.{leb}
use Rattle.words.proofs.Tests.{is_holds}
use Rattle.rulebook.specs.Judged.{judged}
use Rattle.rulebook.specs.Apply.{known, argument_right, own_refusal, reached}
use Rattle.rulebook.proofs.Judged.{judged_plan, judged_sound}
use Rattle.rulebook.proofs.SoundnessKept.{reached_sound}
use Rattle.block.specs.declared.line.Plan.{Plan}
use Rattle.block.specs.declared.event.Event.{Event}
use Rattle.rulebook.specs.Situation.{Kept}
use Rattle.records.specs.Situation.{codes_of, situation}
use Rattle.records.proofs.CodesLaws.{codes_fit}
use Rattle.lists.specs.Refusal.{◌unless◌, event_refusal}
use Rattle.lists.proofs.RightLists.{or_else_none, unless_none, event_right}
use Rattle.folvkin.specs.Block.{tried_refusal, longest_situation}

module _ (p : Plan) (x : Kept) (e : Event) (room : ℕ) (ok : tried_refusal p x e room ≡ 0) where
  -- 1, 2, 3, 4, 24 and the event's own, none of them
  record Passed : Type 0 where
    sound : judged p x ≡ 0
    right : event_refusal p e ≡ 0
    enough : leb longest_situation room ≡ true
    accepted : own_refusal p x e ≡ 0

  passed : Passed
  passed =
      let a = or_else_none (judged p x) _ ok in
      let b = or_else_none (event_refusal p e) _ a.1 in
      let c = or_else_none (24 unless leb longest_situation room) _ b.1 in
      record { sound = a.0; right = b.0; enough = unless_none 23 (leb longest_situation room) c.0; accepted = c.1 }

  pub room_enough : 96 ≤ room
  room_enough = leb-true longest_situation room passed.enough

  pub record_fits : situation.writes (codes_of (reached p x e)) ≡ true
  record_fits =
      let right = event_right p e passed.right in
      let plan = judged_plan p x passed.sound in
      codes_fit p (reached p x e) plan
      (reached_sound p plan x e (judged_sound p x passed.sound) (is_holds (known e) right.0) (is_holds (argument_right p e) right.1) (is_holds _ (eq-eqb (own_refusal p x e) 0 passed.accepted)))
