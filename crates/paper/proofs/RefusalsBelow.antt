-- Every number that a question is refused with is below 25, and so are those put together of smaller ones. Assumes nothing.
use Prim.Native.Nat.{ℕ, ◌<◌}
use mathlib.Core.Bool.{Bool, not}
use mathlib.Core.List.{List, [], ◌∷◌}
use native.Mathlib.Omega.{arith}
use lib.ListN.{length}
use lib.Dec.{eqb, leb}
use Rattle.words.specs.Words.{◌and◌}
use Rattle.words.proofs.Tests.{if_case}
use Rattle.forms.specs.Whole.{Whole, refused as no_form, accepted as form, whole}
use Rattle.block.specs.declared.line.Plan.{Plan}
use Rattle.block.specs.declared.event.Event.{Event}
use Rattle.rulebook.specs.Situation.{Kept}
use Rattle.rulebook.specs.Judged.{judged}
use Rattle.rulebook.specs.Apply.{known, argument_right}
use Rattle.rulebook.proofs.RefusalsBelow.{judged_below}
use Rattle.records.specs.Question.{Parts, question}
use Rattle.lists.specs.Refusal.{◌unless◌, ◌or_else◌, event_refusal, events_refusal, listed_twice, readings_in_range, lists_refusal}
use Rattle.paper.specs.Question.{Question, question_of}
use Rattle.paper.specs.Refusal.{counts_in_range, refusal_of}
use Rattle.paper.specs.Read.{Read, refused, answered, read_as, read_of}

abbrev pub Below : ℕ → Type 0
Below n = n < 25

pub later_below : (r later : ℕ) → Below r → Below later → Below (r or_else later)
later_below r later h k = if_case Below (eqb r 0) later r (λ t. k) (λ t. h)

pub unless_below : (n : ℕ) (right : Bool) → Below n → Below (n unless right)
unless_below n right h = if_case Below right 0 n (λ t. omega arith) (λ t. h)

pub right_below : (p : Plan) (x : Kept) → Below (judged p x)
right_below p x = let j = judged_below p x in omega arith

pub event_below : (p : Plan) (e : Event) → Below (event_refusal p e)
unfolding event_refusal
event_below p e = later_below (3 unless known e) (4 unless argument_right p e) (unless_below 3 (known e) (omega arith)) (unless_below 4 (argument_right p e) (omega arith))

events_below : (p : Plan) (events : List Event) → Below (events_refusal p events)
unfolding events_refusal
events_below p [] = omega arith
events_below p (e ∷ rest) = later_below (event_refusal p e) (events_refusal p rest) (event_below p e) (events_below p rest)

question_below : (q : Question) → Below (refusal_of q)
unfolding refusal_of lists_refusal
question_below q =
    later_below (20 unless counts_in_range (length q.events) (length q.readings)) _ (unless_below 20 (counts_in_range (length q.events) (length q.readings)) (omega arith))
    (later_below (judged q.plan q.situation) _ (right_below q.plan q.situation)
    (later_below (events_refusal q.plan q.events) _ (events_below q.plan q.events)
    (unless_below 21 (leb q.length 5 and not (listed_twice q.events) and readings_in_range q.plan q.readings) (omega arith))))

pub read_below : (bytes : List ℕ) → Below (read_of bytes).refusal
unfolding read_of refused answered
read_below bytes = by (whole question bytes)
  where
    by : (w : Whole Parts) → Below (read_as w).refusal
    by no_form = omega arith
    by (form v) =
        let q = question_of v in
        if_case (λ (r : Read). Below r.refusal) (eqb (refusal_of q) 0) (record { refusal = 0; question = q }) (refused (refusal_of q)) (λ t. omega arith) (λ t. question_below q)
