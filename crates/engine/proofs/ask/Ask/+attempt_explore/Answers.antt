-- Exploring a situation and trying its events, each by the other's promise.
use Rattle.std.proofs.Common.{rules, ℕ, ◌≡◌, false, ◌+◌, ◌/◌, ◌≤◌, length, refl, sym, ap, ◌∙◌, arith}
use borrow.Author.Tests.{not-true, not-false}
use Rattle.keylaws.specs.Rules.{accepts}
use Rattle.keylaws.specs.Parts.{handed}
use Rattle.keylaws.specs.Sheet.{grow}
use Rattle.keylaws.proofs.WalkSteps.{node_leaf, node_full, node_on}
use Rattle.rulebook.specs.Apply.{reached}
use Rattle.situation.specs.Packed.{unpacked}
use Rattle.engine.specs.Walked.{rules_asked}
use Rattle.engine.proofs.Attempted.{since, past_last, past_refused, full, past, one_led, none_led, refused_in_2024, accepted_in_2024, judged_in_2012}
use Rattle.engine.proofs.ask.Ask.+attempt_explore.Goals as goal
use Rattle.engine.proofs.ask.Ask.+attempt_explore.Goals.{attempt-Joined-is_ok, attempt-Joined-accepted}
use Rattle.engine.proofs.ask.Ask.+attempt_explore.Goals.{attempt-then-is_ok+then-not-plan, attempt-then-is_ok+else-not-plan, attempt-else-is_ok}
use Rattle.engine.proofs.ask.Ask.+attempt_explore.Goals.{attempt-then-accepted+then-at-gt1+else-part, attempt-then-accepted+else-at-gt1+then-ends_answer+else-part-2, attempt-then-accepted+else-at-gt1+else-ends_answer, attempt-else-accepted}
use Rattle.engine.proofs.ask.Ask.+attempt_explore.Goals.{explore-then-own-via-then-own, explore-then-own-via-else-own+then-at-eq0}

-- whether the event at the place is accepted
judged : (t : ℕ) (c : attempt-Joined-is_ok t) → c.if-is_ok.accepted ≡ accepts (rules_asked c.args.self.now) (unpacked c.args.x) c.loop-place.place
judged t c =
    let ask = c.args.self.now in
    let x = unpacked c.args.x in
    let first : 1 ≤ c.loop-place.place = omega arith in
    let last : c.loop-place.place ≤ length ask.events.now / 2 = omega arith in
    let r = c.refusal_in_2024.result in
    let f = c.refusal_in_2024.ensures in
    elim c.if-is_ok.branch [
      | attempt-then-is_ok+then-not-plan w ↦ w.accepted-is ∙ w.if-not-plan.true ∙ accepted_in_2024 ask x _ c.event_at-event.ensures first last r f (sym c.is_ok.ensures.value ∙ w.if-is_ok.true) (not-true _ w.if-not-plan.true)
      | attempt-then-is_ok+else-not-plan w ↦ w.accepted-is ∙ w.is_ok-else-not-plan.ensures.value ∙ judged_in_2012 ask x _ c.event_at-event.ensures first last r f (sym c.is_ok.ensures.value ∙ w.if-is_ok.true) (not-false _ w.if-not-plan.false) _ w.added_in_2012.ensures
      | attempt-else-is_ok w ↦ w.accepted-is ∙ c.is_ok.ensures.value ∙ refused_in_2024 ask x _ c.event_at-event.ensures first last r f (sym c.is_ok.ensures.value ∙ w.if-is_ok.false)
    ]

-- what it puts into the room, if the walk goes on
stepped : (t : ℕ) (c : attempt-Joined-accepted t) → c.if-is_ok.accepted ≡ accepts (rules_asked c.args.self.now) (unpacked c.args.x) c.loop-place.place
    → since c.args.self.now (unpacked c.args.x) c.args.at c.if-accepted.count c.if-accepted.room false (c.loop-place.place + 1)
    ≡ since c.args.self.now (unpacked c.args.x) c.args.at c.loop-place.count c.loop-place.room c.loop-place.on c.loop-place.place
stepped t c judged =
    let ask = c.args.self.now in
    let x = unpacked c.args.x in
    let at = c.args.at in
    let l = c.loop-place in
    let is = c.event_at-event.ensures in
    let first : 1 ≤ l.place = omega arith in
    let last : l.place ≤ length ask.events.now / 2 = omega arith in
    let y = reached ask.plan x c.event_at-event.result in
    let slot = grow at.slot at.depth l.place in
    elim c.if-accepted.branch [
      | attempt-then-accepted+then-at-gt1+else-part w ↦ rw (w.room-is, w.count-is)
          (past ask x l.place is first last at l.count l.room l.on (sym w.if-accepted.true ∙ judged) (unpacked w.next.result) w.next.ensures w.grow_slot.result w.grow_slot.ensures _ _ _ w.explore-part.ensures.put w.if-part.false)
      | attempt-then-accepted+else-at-gt1+then-ends_answer+else-part-2 w ↦ rw (w.room-is, w.count-is)
          (past ask x l.place is first last at l.count l.room l.on (sym w.if-accepted.true ∙ judged) y refl slot refl _ _ _
          (one_led ask x l.place is first last at l.count l.room l.on (sym w.if-accepted.true ∙ judged) y refl slot refl (omega arith) (sym w.if-ends_answer.true ∙ w.ends_answer.ensures) _ _ _ w.put_grown-part.ensures.put) w.if-part-2.false)
      | attempt-then-accepted+else-at-gt1+else-ends_answer w ↦ rw (w.room-is, w.count-is)
          (past ask x l.place is first last at l.count l.room l.on (sym w.if-accepted.true ∙ judged) y refl slot refl _ _ _
          (none_led ask x l.place is first last at l.count l.room l.on (sym w.if-accepted.true ∙ judged) y refl slot refl (omega arith) (sym w.if-ends_answer.false ∙ w.ends_answer.ensures)) refl)
      | attempt-else-accepted w ↦ rw (w.room-is, w.count-is) (past_refused ask x l.place is first last at l.count l.room l.on (sym w.if-accepted.false ∙ judged))
    ]

pub attempt-loop-place-preserved : goal.attempt-loop-place-preserved
attempt-loop-place-preserved t c =
    let s = goal.at.attempt-loop-place-preserved t c in
    record { fits = search rules; written = stepped t s.Joined-accepted (judged t s.Joined-is_ok) ∙ c.loop-place.invariant.written }

pub attempt-returns-after-accepted-clause-put : goal.attempt-returns-after-accepted-clause-put
attempt-returns-after-accepted-clause-put t c =
    let s = goal.at.attempt-returns-after-accepted-clause-put t c in
    past_last c.args.self.now (unpacked c.args.x) c.args.at _ _ false (c.loop-place.place + 1) (omega arith) ∙ stepped t s.Joined-accepted (judged t s.Joined-is_ok) ∙ c.loop-place.invariant.written

pub attempt-returns-clause-put : goal.attempt-returns-clause-put
attempt-returns-clause-put t c = past_last c.args.self.now (unpacked c.args.x) c.args.at _ _ c.loop-place.on c.loop-place.place (omega arith) ∙ c.loop-place.invariant.written

pub attempt-returns-then-part-clause-put : goal.attempt-returns-then-part-clause-put
attempt-returns-then-part-clause-put t c =
    let l = c.loop-place in
    let judged = judged t (goal.at.attempt-returns-then-part-clause-put t c).Joined-is_ok in
    full c.args.self.now (unpacked c.args.x) l.place c.event_at-event.ensures (omega arith) (omega arith) c.args.at l.count l.room l.on (sym c.if-accepted.true ∙ judged) (unpacked c.next.result) c.next.ensures c.grow_slot.result c.grow_slot.ensures
    _ _ _ c.explore-part.ensures.put c.if-part.true
    ∙ l.invariant.written

pub attempt-returns-then-part-2-clause-put : goal.attempt-returns-then-part-2-clause-put
attempt-returns-then-part-2-clause-put t c =
    let ask = c.args.self.now in
    let x = unpacked c.args.x in
    let at = c.args.at in
    let l = c.loop-place in
    let is = c.event_at-event.ensures in
    let y = reached ask.plan x c.event_at-event.result in
    let slot = grow at.slot at.depth l.place in
    let judged = judged t (goal.at.attempt-returns-then-part-2-clause-put t c).Joined-is_ok in
    full ask x l.place is (omega arith) (omega arith) at l.count l.room l.on (sym c.if-accepted.true ∙ judged) y refl slot refl _ _ _
    (one_led ask x l.place is (omega arith) (omega arith) at l.count l.room l.on (sym c.if-accepted.true ∙ judged) y refl slot refl (omega arith) (sym c.if-ends_answer.true ∙ c.ends_answer.ensures) _ _ _ c.put_grown-part.ensures.put) c.if-part-2.true
    ∙ l.invariant.written

pub explore-returns-then-own-clause-put : goal.explore-returns-then-own-clause-put
explore-returns-then-own-clause-put t c = elim c.then-own.branch [
  | explore-then-own-via-then-own w ↦ ap (handed _ _) w.if-own.true ∙ node_full _ _ _ _ _ _ _ _ _ _ c.own_answer-own.ensures.put _ w.if-own.true
  | explore-then-own-via-else-own+then-at-eq0 w ↦ node_leaf _ _ _ _ _ _ _ _ _ _ c.own_answer-own.ensures.put _ w.if-at-eq0.true
]

pub explore-returns-clause-put : goal.explore-returns-clause-put
explore-returns-clause-put t c = node_on _ _ _ _ _ _ _ _ _ _ c.own_answer-own.ensures.put _ _ c.if-at-eq0.false _ _ refl refl c.if-own.false c.attempt.ensures.put
