-- A candidate's run stops at the first event that is refused, applied where those before it have led, and tells place, refusal and what that names.
-- From what a run tells over any rules, and that along a run from a sound situation `stepped` and `applied` agree. Assumes nothing.
use Prim.Native.Nat.{ℕ, ◌+◌, ◌<◌}
use mathlib.Core.Path.{◌≡◌, sym, ap, ap₂, subst, ◌∙◌}
use mathlib.Core.Bool.{true}
use mathlib.Core.List.{List}
use lib.ListN.{length, take, get_or}
use borrow.Author.Tests.{eq-eqb}
use Rattle.keylaws.specs.Key.{reached}
use Rattle.keylaws.specs.Slots.{word_of, is_slot}
use Rattle.keylaws.specs.Run.{stopped}
use Rattle.keylaws.proofs.RunTells as any-rules
use Rattle.block.specs.declared.event.Event.{Event}
use Rattle.rulebook.specs.Situation.{Kept}
use Rattle.rulebook.specs.Apply.{stepped, applied, Outcome, along, at_the_end}
use Rattle.rulebook.specs.Names.{name}
use Rattle.rulebook.proofs.SoundnessKept.{sound_after}
use Rattle.rulebook.proofs.StepsAgree.{one_step}
use Rattle.records.specs.Lists.{event_at}
use Rattle.rules.proofs.RunNames.{names_there}
use Rattle.paper.specs.Question.{Question}
use Rattle.paper.specs.Refusal.{refusal_of}
use Rattle.paper.proofs.Accepted.{Accepted, accepted}
use Rattle.paper.proofs.ReadBytes.{read_is_accepted}
use Rattle.keys.specs.Key.{question_in, rules}
use Rattle.keys.specs.Calls.{told, slot_run}
use Rattle.folvkin.specs.Questions.{packed_run}
use Rattle.calllaws.specs.Answers.{events_of, outcomes, AllAccepted}
use Rattle.calllaws.specs.Laws.{RunStops}
use Rattle.calllaws.proofs.RightSequences.{accepted_turns, reached_at_the_end, agree}

module _ (q : Question) (right : refusal_of q ≡ 0) (slot : List ℕ) (is : is_slot (rules q).events q.length slot ≡ true) (i : ℕ) (h : i < length (word_of slot)) where
  before : List Outcome
  before = outcomes q (events_of q (take i (word_of slot)))

  x : Kept
  x = at_the_end q.situation before

  e : Event
  e = event_at q.events (get_or (word_of slot) i 0)

  refusal : ℕ
  refusal = (applied q.plan x e).refusal

  ok : Accepted q
  ok = accepted q right

  turned : AllAccepted before → AllAccepted (along (stepped q.plan) q.situation (events_of q (take i (word_of slot))))
  unfolding before
  turned a = subst AllAccepted (sym (agree q right (take i (word_of slot)))) a

  here : reached (rules q) q.situation (take i (word_of slot)) ≡ x
  unfolding x before
  here = reached_at_the_end q (take i (word_of slot)) q.situation ∙ ap (at_the_end q.situation) (agree q right (take i (word_of slot)))

  tried : (stepped q.plan (reached (rules q) q.situation (take i (word_of slot))) e).refusal ≡ refusal
  unfolding x before refusal
  tried =
      ap (λ (y : Kept). (stepped q.plan y e).refusal) here
      ∙ ap (λ (o : Outcome). o.refusal) (one_step q.plan ok.plan x (sound_after q.plan ok.plan q.situation ok.situation (events_of q (take i (word_of slot)))) e)

  slot_stops : AllAccepted before → (refusal ≡ 0 → ⊥) → slot_run q slot ≡ told (stopped (i + 1) refusal) (name q.plan x e refusal)
  unfolding slot_run e
  slot_stops a n =
      let turns = accepted_turns q (take i (word_of slot)) q.situation (turned a) in
      let r = any-rules.run_stops (rules q) q.situation (word_of slot) i h turns (λ z. n (sym tried ∙ z)) in
      let m = names_there q.plan q.events q.readings (word_of slot) q.situation i h turns (λ z. n (sym tried ∙ z)) in
      rw is (ap₂ told (r ∙ ap (stopped (i + 1)) tried) (m ∙ ap₂ (λ (y : Kept) (k : ℕ). name q.plan y e k) here tried))

pub run_stops : RunStops
unfolding before x e refusal
run_stops question slot right is i h a n =
    let q = question_in question in
    rw (eq-eqb _ 0 right) (ap packed_run (slot_stops q (read_is_accepted question right) slot is i h a n))
