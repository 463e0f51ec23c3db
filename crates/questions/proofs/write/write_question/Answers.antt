use Prim.Native.Nat.{ℕ, ◌+◌, ◌*◌, ◌≤◌}
use mathlib.Core.Path.{◌≡◌, sym}
use native.Mathlib.Omega.{arith}
use lib.ListN.{length}
use Rattle.situation.specs.Packed.{unpacked}
use Rattle.records.specs.Situation.{Codes, codes_of}
use Rattle.records.specs.InBytes.{plan_size, situation_size}
use Rattle.records.proofs.PlanForms.{plan_size_between}
use Rattle.records.proofs.SituationForms.{size_between}
use Rattle.records.proofs.CodesLaws.{codes_fit}
use Rattle.records.proofs.Lies.{long}
use Rattle.paper.specs.Question.{parts_of, written}
use Rattle.paper.specs.Refusal.{refusal_of}
use Rattle.questions.specs.declared.question.Question.{Question as Packed}
use Rattle.questions.specs.InCode.{asked}
use Rattle.questions.proofs.CountedItems.{events_many, readings_many}
use Rattle.questions.proofs.AcceptedQuestions.{plan_is_one, situation_is_sound, events_counted, readings_counted}
use Rattle.questions.proofs.WritingTells.{tells_its_refusal, tells_short_room, tells_length}
use Rattle.questions.proofs.WrittenIsRead.{written_is_whole}
use Rattle.block.proofs.Told.{not_accepted}
use borrow.Author.Rules.{rules}
use Rattle.questions.proofs.write.write_question.Goals as goal

-- the codes of the situation that is asked
abbrev codes : Packed → Codes
codes q = codes_of (unpacked q.situation)

asked_long : (q : Packed) → refusal_of (asked q) ≡ 0 → length (written (asked q)) ≡ 9 + plan_size q.plan + situation_size (codes q) + 2 * q.events.count + 3 * q.readings.count
asked_long q z =
    let l : length (written (asked q)) ≡ 9 + plan_size q.plan + situation_size (codes q) + 2 * length (asked q).events + 3 * length (asked q).readings =
    (long (written (asked q)) (parts_of (asked q)) (written_is_whole (asked q) z)).end in
    omega (arith, l, events_many q.events, readings_many q.readings)

-- the size is the sum of a few bytes
plan_small : (q : Packed) {n : ℕ} → n ≡ plan_size q.plan → n ≤ 5
plan_small q e = omega (arith, e, (plan_size_between q.plan).1)

record_small : (q : Packed) {n : ℕ} → n ≡ situation_size (codes q) → n ≤ 23
record_small q e = omega (arith, e, (size_between (codes q)).1)

pub returns-in_err-refusal_of : goal.returns-in_err-refusal_of
returns-in_err-refusal_of c =
    let t = tells_its_refusal (asked c.args.q) c.args.room.now _ c.in_err-refusal_of.ensures (not_accepted _) in
    record { value = search rules; room_after = search rules }

pub overflow_add-size : goal.overflow_add-size
overflow_add-size c = omega (arith, plan_small c.args.q c.plan_size.ensures)

pub overflow_add-size-2 : goal.overflow_add-size-2
overflow_add-size-2 c =
    let q = c.args.q in
    omega (arith, plan_small q c.plan_size.ensures, record_small q c.record_size.ensures)

pub overflow_add-size-3 : goal.overflow_add-size-3
overflow_add-size-3 c =
    let q = c.args.q in
    omega (arith, plan_small q c.plan_size.ensures, record_small q c.record_size.ensures, c.from.ensures, c.from-2.ensures)

pub returns-then-room-size : goal.returns-then-room-size
returns-then-room-size c =
    let s = c.args in
    let ok = sym c.in_ok-refusal_of.ensures in
    let t = tells_short_room (asked s.q) s.room.now ok
    (omega (arith, asked_long s.q ok, c.record_size.ensures, c.plan_size.ensures, c.from.ensures, c.from-2.ensures)) in
    record { value = t.0; room_after = t.1 }

pub put_question-requires : goal.put_question-requires
put_question-requires c =
    let q = c.args.q in
    let ok = sym c.in_ok-refusal_of.ensures in
    record {
      count_bound = (
        omega (arith, events_counted (asked q) ok, events_many q.events),
        omega (arith, readings_counted (asked q) ok, readings_many q.readings),
        codes_fit q.plan (unpacked q.situation) (plan_is_one (asked q) ok) (situation_is_sound (asked q) ok),
      );
      count_in_bounds = omega (arith, c.record_size.ensures, c.plan_size.ensures, c.from.ensures, c.from-2.ensures);
    }

pub returns : goal.returns
returns c =
    let s = c.args in
    let ok = sym c.in_ok-refusal_of.ensures in
    let put = c.put_question.ensures in
    let t = tells_length (asked s.q) s.room.now ok
    (omega (arith, asked_long s.q ok, c.record_size.ensures, c.plan_size.ensures, c.from.ensures, c.from-2.ensures)) in
    record { value = rw put.value t.0; room_after = rw put.room_after t.1 }
