use Prim.Native.Nat.{ℕ, ◌+◌, ◌*◌, ◌≤◌}
use mathlib.Core.Path.{◌≡◌, sym, ap, ap₂, ◌∙◌}
use mathlib.Core.List.{List, ◌∷◌, ◌++◌}
use native.Mathlib.Omega.{arith}
use borrow.Author.Rules.{rules}
use lib.Seq.{length-take-le}
use lib.ListN.{length, take}
use Rattle.records.specs.Lists.{answer_length}
use Rattle.records.specs.Situation.{codes_of, situation}
use Rattle.records.specs.InBytes.{situation_size, situation_bytes}
use Rattle.records.specs.Plan.{plan}
use Rattle.records.proofs.PlanForms.{plan_size_is}
use Rattle.records.proofs.SituationForms.{size_is, bytes_are}
use Rattle.paper.specs.Question.{written}
use Rattle.questions.specs.InCode.{asked}
use Rattle.forms.specs.Form.{laid}
use Rattle.questions.proofs.CountedItems.{events_laid, readings_laid}
use Rattle.questions.proofs.Laid.{onto, length_long, records_laid}
use Rattle.questions.proofs.write.put_question.Goals as goal

pub returns : goal.returns
returns c =
    let q = asked c.args.q in
    let room = c.args.room.now in
    let lb = c.put_plan-si.ensures in
    let si = c.put_situation.ensures in
    let ev = c.put_items.ensures in
    let rd = c.put_items-2.ensures in
    let ln = c.put_length.ensures in
    let events = c.args.q.events in
    let readings = c.args.q.readings in
    let h : length events.bytes ≡ 24 = search rules in
    let k : length readings.bytes ≡ 24 = search rules in
    let fit : (2 * events.count ≤ length events.bytes) × (3 * readings.count ≤ length readings.bytes) = (omega (arith, h, c.requires.count_bound.0), omega (arith, k, c.requires.count_bound.1)) in
    let f₁ = plan.written q.plan in
    let codes = codes_of q.situation in
    let fits = c.requires.count_bound.2 in
    let f₂ = take (situation_size codes) (situation_bytes codes) in
    let f₃ : List ℕ = 69 ∷ 86 ∷ events.count ∷ take (2 * events.count) events.bytes in
    let f₄ : List ℕ = 82 ∷ 68 ∷ readings.count ∷ take (3 * readings.count) readings.bytes in
    let f₅ = answer_length.written q.length in
    let is₂ : f₂ ≡ situation.written codes = bytes_are codes fits in
    let n₂ : length f₂ ≡ situation_size codes = ap length is₂ ∙ size_is codes fits in
    let n₃ : length f₃ ≡ 3 + 2 * events.count = omega (arith, length-take-le (2 * events.count) events.bytes fit.0) in
    let n₄ : length f₄ ≡ 3 + 3 * readings.count = omega (arith, length-take-le (3 * readings.count) readings.bytes fit.1) in
    let r₂ = onto f₁ f₂ room (lb.value ∙ sym (plan_size_is q.plan), lb.room_after) (si.value ∙ sym n₂, si.room_after) in
    let r₃ = onto (f₁ ++ f₂) f₃ room r₂ (ev.value ∙ sym n₃, ev.room_after) in
    let r₄ = onto ((f₁ ++ f₂) ++ f₃) f₄ room r₃ (rd.value ∙ sym n₄, rd.room_after) in
    let r₅ = onto (((f₁ ++ f₂) ++ f₃) ++ f₄) f₅ room r₄ (ln.value ∙ sym (length_long q), ln.room_after) in
    let w : (((f₁ ++ f₂) ++ f₃) ++ f₄) ++ f₅ ≡ written q =
    ap (λ (x : List ℕ). (((f₁ ++ x) ++ f₃) ++ f₄) ++ f₅) is₂
    ∙ ap₂ (λ (x y : List ℕ). (((f₁ ++ situation.written codes) ++ x) ++ y) ++ f₅) (events_laid events fit.0) (readings_laid readings fit.1) ∙ records_laid q in
    record { value = r₅.0 ∙ ap length w; room_after = r₅.1 ∙ ap (λ (f : List ℕ). laid f room) w }
