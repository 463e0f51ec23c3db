-- What lies where: of bytes that are a question, each record's bytes are what is written of it. Assumes nothing.
use Prim.Native.Nat.{ℕ, ◌+◌, ◌*◌, ◌/◌, ◌≤◌}
use mathlib.Core.Path.{◌≡◌, refl, sym, ap, ◌∙◌}
use mathlib.Core.Bool.{true}
use mathlib.Core.List.{List, [], ◌∷◌, append-nil}
use native.Mathlib.Omega.{arith}
use borrow.Author.Tests.{leb-true}
use lib.ListN.{length, length-append}
use lib.Dec.{leb}
use Rattle.std.specs.Prelude.{None, Some}
use Rattle.words.specs.Words.{◌and◌}
use Rattle.block.specs.declared.event.Event.{Event}
use Rattle.block.specs.declared.reading.Reading.{Reading}
use Rattle.forms.specs.Compose.{each_written}
use Rattle.forms.specs.Whole.{Whole, refused, accepted, whole}
use Rattle.forms.proofs.Reading.{both}
use Rattle.records.specs.Plan.{plan}
use Rattle.records.specs.Situation.{situation}
use Rattle.records.specs.Lists.{one_event, events, one_reading, readings, answer_length}
use Rattle.records.specs.Question.{Parts, question}
use Rattle.records.specs.Laid.{Bytes, bytes_of_parts, laid_in, end_to_end}
use Rattle.records.specs.InBytes.{plan_at, plan_size, codes_at, situation_size, events_in, readings_in}
use Rattle.records.proofs.QuestionLaws.{one_form}
use Rattle.records.proofs.PlanForms.{plan_size_is, plan_long_enough}
use Rattle.records.proofs.SituationForms.{size_is, long_enough}
use Rattle.records.proofs.InBytes.{events_written_in, readings_written_in, codes_written_at, plan_written_at}

each_event_long : (items : List Event) → length (each_written one_event items) ≡ 2 * length items
each_event_long [] = refl
each_event_long (e ∷ items) = omega (arith, each_event_long items)

each_reading_long : (items : List Reading) → length (each_written one_reading items) ≡ 3 * length items
each_reading_long [] = refl
each_reading_long (r ∷ items) = omega (arith, each_reading_long items)

module _ (s : List ℕ) (v : Parts) (h : whole question s ≡ accepted v) where
  -- ---- what the form can write
  pub record Fits : Type 0 where
    pub situation : situation.writes v.1.0 ≡ true
    pub events : (1 ≤ length v.1.1.0) × (length v.1.1.0 ≤ 12)
    pub readings : length v.1.1.1.0 ≤ 6

  pub fits : Fits
  unfolding question events readings answer_length
  fits =
      let w = both (plan.writes v.0) _ (one_form s v h).0 in
      let a = both (situation.writes v.1.0) _ w.1 in
      let b = both (events.writes v.1.1.0) _ a.1 in
      let c = both (readings.writes v.1.1.1.0) _ b.1 in
      let d = (both (leb 1 (length v.1.1.0) and leb (length v.1.1.0) 12) _ b.0).0 in
      let e = both (leb 1 (length v.1.1.0)) (leb (length v.1.1.0) 12) d in
      let f = (both (leb 0 (length v.1.1.1.0) and leb (length v.1.1.1.0) 6) _ c.0).0 in
      let g = both (leb 0 (length v.1.1.1.0)) (leb (length v.1.1.1.0) 6) f in
      record { situation = a.0; events = (leb-true _ _ e.0, leb-true _ _ e.1); readings = leb-true _ _ g.1 }

  -- ---- how long it is
  pub record Long : Type 0 where
    pub end : length s ≡ 9 + plan_size v.0 + situation_size v.1.0 + 2 * length v.1.1.0 + 3 * length v.1.1.1.0

  pub long : Long
  unfolding question events readings answer_length
  long =
      let a = ap length (sym (one_form s v h).1) in
      record { end = omega (arith, simp length-append at a, plan_size_is v.0, size_is v.1.0 fits.situation, each_event_long v.1.1.0, each_reading_long v.1.1.1.0) }

-- ---- what the code hands out of a question, and what can be read there
pub not_laid : (s : List ℕ) → None ≡ laid_in (whole question s) → whole question s ≡ refused
not_laid s e = by (whole question s) e
  where
    by : (w : Whole Parts) → None ≡ laid_in w → w ≡ refused
    by refused e = refl
    by (accepted v) e = cc

pub record Lies (s : List ℕ) (b : Bytes) : Type 0 where
  pub parts : Parts
  pub whole : whole question s ≡ accepted parts
  pub plan : plan_at b.plan ≡ parts.0
  pub plan_long : 4 ≤ length b.plan
  pub situation : codes_at b.situation ≡ parts.1.0
  pub situation_long : 21 ≤ length b.situation
  pub events : events_in b.events ≡ parts.1.1.0
  pub events_long : length b.events ≡ 2 * length parts.1.1.0
  pub readings : readings_in b.readings ≡ parts.1.1.1.0
  pub readings_long : length b.readings ≡ 3 * length parts.1.1.1.0
  pub length_is : b.length ≡ parts.1.1.1.1

pub lies : (s : List ℕ) (b : Bytes) → Some b ≡ laid_in (whole question s) → Lies s b
lies s b e = by (whole question s) refl e
  where
    of : (v : Parts) → whole question s ≡ accepted v → b ≡ bytes_of_parts v → Lies s b
    of v is e =
        let plan_bytes = ap (λ (a : Bytes). a.plan) e in
        let situation_bytes = ap (λ (a : Bytes). a.situation) e in
        let event_bytes = ap (λ (a : Bytes). a.events) e in
        let reading_bytes = ap (λ (a : Bytes). a.readings) e in
        record {
          parts = v;
          whole = is;
          plan = ap plan_at (plan_bytes ∙ sym (append-nil (plan.written v.0))) ∙ plan_written_at v.0 [];
          plan_long = rw plan_bytes (plan_long_enough v.0);
          situation = ap codes_at situation_bytes ∙ codes_written_at v.1.0 (fits s v is).situation;
          situation_long = rw situation_bytes (long_enough v.1.0);
          events = ap events_in event_bytes ∙ events_written_in v.1.1.0;
          events_long = ap length event_bytes ∙ each_event_long v.1.1.0;
          readings = ap readings_in reading_bytes ∙ readings_written_in v.1.1.1.0;
          readings_long = ap length reading_bytes ∙ each_reading_long v.1.1.1.0;
          length_is = ap (λ (a : Bytes). a.length) e;
        }

    by : (w : Whole Parts) → whole question s ≡ w → Some b ≡ laid_in w → Lies s b
    by refused is e = absurd (let z : ⊥ = cc in z)
    by (accepted v) is e = of v is (let z : b ≡ bytes_of_parts v = cc in z)

-- ---- where it lies: each record begins where the ones before it end, and after the last one nothing is left
parts_end_to_end : (v : Parts) → end_to_end (bytes_of_parts v) ≡ question.written v
unfolding question events readings answer_length
parts_end_to_end v =
    let n : length (each_written one_event v.1.1.0) / 2 ≡ length v.1.1.0 = omega (arith, each_event_long v.1.1.0) in
    let m : length (each_written one_reading v.1.1.1.0) / 3 ≡ length v.1.1.1.0 = omega (arith, each_reading_long v.1.1.1.0) in
    rw (n, m) refl

pub laid_end_to_end : (s : List ℕ) (b : Bytes) → Some b ≡ laid_in (whole question s) → end_to_end b ≡ s
laid_end_to_end s b e = by (whole question s) refl e
  where
    by : (w : Whole Parts) → whole question s ≡ w → Some b ≡ laid_in w → end_to_end b ≡ s
    by refused is e = absurd (let z : ⊥ = cc in z)
    by (accepted v) is e = ap end_to_end (let z : b ≡ bytes_of_parts v = cc in z) ∙ parts_end_to_end v ∙ (one_form s v is).1
