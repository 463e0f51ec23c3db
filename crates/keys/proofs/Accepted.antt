-- What an accepted question gives the code: its counts keep to the document, from refusals 20 and 21, and its events are right, from 3 and 4.
use Prim.Native.Nat.{ℕ, ◌≤◌}
use mathlib.Core.Path.{◌≡◌, refl}
use mathlib.Core.Bool.{true}
use mathlib.Core.List.{List, [], ◌∷◌}
use native.Mathlib.Omega.{arith}
use lib.ListN.{length}
use Rattle.words.proofs.Tests.{holds_is}
use Rattle.block.specs.declared.line.Plan.{Plan}
use Rattle.block.specs.declared.event.Event.{Event}
use Rattle.block.specs.Line.{is_plan}
use Rattle.lists.specs.Refusal.{event_refusal, events_refusal}
use Rattle.lists.proofs.RightLists.{or_else_none, event_right, lists_right}
use Rattle.records.specs.InBytes.{events_in}
use Rattle.rules.specs.Judged.{all_right}
use Rattle.paper.specs.Question.{Question}
use Rattle.paper.specs.Refusal.{refusal_of}
use Rattle.paper.specs.Found.{asked}
use Rattle.paper.specs.declared.question.Accepted.{Accepted as Found}
use Rattle.paper.proofs.Accepted.{accepted}
use Rattle.paper.proofs.ReadBytes.{read_is_accepted}
use Rattle.keys.specs.Key.{Accepted, question_in, Bounded}

-- events of which no check fails
right_events : (p : Plan) (events : List Event) → events_refusal p events ≡ 0 → all_right p events ≡ true
unfolding events_refusal all_right
right_events p [] h = refl
right_events p (e ∷ rest) h =
    let a = or_else_none (event_refusal p e) _ h in
    let b = event_right p e a.0 in
    rw (b.0, b.1) (right_events p rest a.1)

question_bounded : (q : Question) → refusal_of q ≡ 0 → Bounded q
question_bounded q h = let a = accepted q h in (a.counts.1, a.counts.2, (lists_right _ _ _ _ a.lists).short)

module _ (bytes : List ℕ) (ok : Accepted bytes) where
  pub bounded : Bounded (question_in bytes)
  bounded = question_bounded (question_in bytes) (read_is_accepted bytes ok)

-- ---- as it is found
module _ (q : Found) where
  pub limits : (q.length ≤ 5) × (length q.events.now ≤ 24)
  limits = let b = question_bounded (asked q) q.accepted in (b.2, omega (arith, q.events_whole, b.0))

  pub right_there : (all_right q.plan (events_in q.events.now) ≡ true) × (is_plan q.plan ≡ true)
  right_there =
      let a = accepted (asked q) q.accepted in
      (right_events q.plan (events_in q.events.now) (lists_right _ _ _ _ a.lists).events_right, holds_is (is_plan q.plan) a.plan)
