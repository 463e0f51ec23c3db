-- What refuses a question, check by check, by the counts of its items. Assumes nothing.
use Prim.Native.Nat.{ℕ}
use mathlib.Core.Path.{◌≡◌}
use mathlib.Core.Bool.{true, false}
use borrow.Author.Tests.{ne_eqb}
use Rattle.situation.specs.Packed.{unpacked}
use Rattle.rulebook.specs.Judged.{judged}
use Rattle.records.specs.InBytes.{events_in, readings_in}
use Rattle.lists.specs.Refusal.{lists_refusal}
use Rattle.paper.specs.Refusal.{counts_in_range, refusal_of}
use Rattle.questions.specs.declared.question.Question.{Question as Packed}
use Rattle.questions.specs.InCode.{counted, asked}
use Rattle.questions.proofs.CountedItems.{events_many, readings_many}

module _ (q : Packed) where
  pub by_counts : counts_in_range q.events.count q.readings.count ≡ false → 20 ≡ refusal_of (asked q)
  unfolding refusal_of
  by_counts c = rw (events_many q.events, readings_many q.readings, c)

  module _ (c : counts_in_range q.events.count q.readings.count ≡ true) where
    pub by_judged : {r : ℕ} → r ≡ judged q.plan (unpacked q.situation) → (r ≡ 0 → ⊥) → r ≡ refusal_of (asked q)
    unfolding refusal_of
    by_judged {r} e z = rw (events_many q.events, readings_many q.readings, c, ← e, ne_eqb r 0 z)

    pub by_lists : 0 ≡ judged q.plan (unpacked q.situation) → {r : ℕ} → r ≡ lists_refusal q.plan (events_in (counted 2 q.events)) (readings_in (counted 3 q.readings)) q.length → r ≡ refusal_of (asked q)
    unfolding refusal_of
    by_lists j {r} e = rw (events_many q.events, readings_many q.readings, c, ← j) e
