-- Records as the code has them, in bytes: they are what the forms write. Assumes nothing.
use Rattle.std.specs.Prelude.{if◌then◌else◌}
use Rattle.std.specs.Simd.{first_chunks}
use Prim.Native.Nat.{ℕ, zero, suc, ◌-◌, ◌*◌, ◌/◌, ◌≤◌, ◌<◌}
use mathlib.Core.Path.{◌≡◌, refl, sym, ap, ◌∙◌}
use mathlib.Core.Bool.{Bool, true, false, false≢true}
use mathlib.Core.List.{List, [], ◌∷◌, ◌++◌, append-nil}
use native.Mathlib.Omega.{arith}
use lib.ListN.{length, take, drop, get_or, length-drop}
use lib.Seq.{take_all}
use lib.Dec.{eqb}
use borrow.Author.Tests.{eqb-true}
use Rattle.rulebook.specs.Apply.{event}
use Rattle.block.specs.declared.line.Plan.{Plan}
use Rattle.block.specs.declared.event.Event.{Event}
use Rattle.block.specs.declared.reading.Reading.{Reading}
use Rattle.forms.specs.declared.Letters.{Letters}
use Rattle.forms.specs.Compose.{each_written, letters, section, named}
use Rattle.forms.specs.Choices.{left_out}
use Rattle.forms.specs.Whole.{Whole, refused, accepted, whole}
use Rattle.forms.specs.Taken.{value}
use Rattle.forms.proofs.Reading.{both}
use Rattle.forms.proofs.Fields.{section_law}
use Rattle.forms.proofs.Whole as Whole
use Rattle.records.specs.Situation.{SI, SJ, Codes, codes_made, code_parts, body, without_watch, with_watch, situation}
use Rattle.records.specs.Lists.{one_event, one_reading, event_at}
use Rattle.records.specs.InBytes.{events_in, readings_in, codes_at, both_zero, plan_at}
use Rattle.records.specs.Plan.{of_2024, of_2012, plan}
use Rattle.records.specs.Sizes.{is_accepted}
use Rattle.records.proofs.RecordLaws.{plan_law, situation_law}
use Rattle.records.proofs.PlanForms.{same_plan, plan_written_as, plan_long_enough}
use Rattle.records.proofs.SituationForms.{FieldsFit, fields_fit, SJ_says, written_as, long_enough}

pub events_written_in : (items : List Event) → events_in (each_written one_event items) ≡ items
unfolding events_in
events_written_in [] = refl
events_written_in (e ∷ items) = ap (λ (t : List Event). e ∷ t) (events_written_in items)

pub readings_written_in : (items : List Reading) → readings_in (each_written one_reading items) ≡ items
unfolding readings_in
readings_written_in [] = refl
readings_written_in (r ∷ items) = ap (λ (t : List Reading). r ∷ t) (readings_written_in items)

-- the part of a list from k on
pub part_from : (k : ℕ) (t : List ℕ) → take (length t - k) (drop k t) ≡ drop k t
part_from k t = take_all (length t - k) (drop k t) (omega (arith, length-drop k t))

-- ---- events, one by one
pub events_end : (t : List ℕ) → length t < 2 → events_in t ≡ []
unfolding events_in
events_end [] h = refl
events_end (c ∷ []) h = refl
events_end (c ∷ a ∷ t) h = absurd (omega arith)

pub events_step : (t : List ℕ) → 2 ≤ length t → events_in t ≡ event (get_or t 0 0) (get_or t 1 0) ∷ events_in (drop 2 t)
unfolding events_in
events_step [] h = absurd (omega arith)
events_step (c ∷ []) h = absurd (omega arith)
events_step (c ∷ a ∷ t) h = refl

pub events_counted : (t : List ℕ) → length (events_in t) ≡ length t / 2
unfolding events_in
events_counted [] = refl
events_counted (c ∷ []) = refl
events_counted (c ∷ a ∷ t) = omega (arith, events_counted t)

-- a byte that is left over is no event
pub events_whole : (t : List ℕ) → events_in (take (2 * (length t / 2)) t) ≡ events_in t
unfolding events_in
events_whole [] = refl
events_whole (c ∷ []) = refl
events_whole (c ∷ a ∷ t) =
    let e : 2 * (length (c ∷ a ∷ t) / 2) ≡ suc (suc (2 * (length t / 2))) = omega arith in
    rw e (ap (λ (items : List Event). event c a ∷ items) (events_whole t))

-- events that fill their bytes are written as these
pub events_in_written : (t : List ℕ) (n : ℕ) → length t ≡ 2 * n → each_written one_event (events_in t) ≡ t
unfolding events_in
events_in_written [] n h = refl
events_in_written (c ∷ []) n h = absurd (omega arith)
events_in_written (c ∷ a ∷ t) zero h = absurd (omega arith)
events_in_written (c ∷ a ∷ t) (suc n) h = ap (λ (u : List ℕ). c ∷ a ∷ u) (events_in_written t n (omega arith))

-- the bytes two by two
nth_event : (t : List ℕ) (k i : ℕ) → i < k → 2 * k ≤ length t → event (get_or (get_or (first_chunks 2 k t) i []) 0 0) (get_or (get_or (first_chunks 2 k t) i []) 1 0) ≡ get_or (events_in t) i (event 0 0)
unfolding events_in
nth_event t zero i l h = absurd (omega arith)
nth_event [] (suc k) i l h = absurd (omega arith)
nth_event (c ∷ []) (suc k) i l h = absurd (omega arith)
nth_event (c ∷ a ∷ t) (suc k) zero l h = refl
nth_event (c ∷ a ∷ t) (suc k) (suc i) l h = nth_event t k i (omega arith) (omega arith)

pub event_at_place : (t : List ℕ) (pairs : List (List ℕ)) (place : ℕ) → pairs ≡ first_chunks 2 (length t / 2) t → 1 ≤ place → 2 * place ≤ length t
    → event (get_or (get_or pairs (place - 1) []) 0 0) (get_or (get_or pairs (place - 1) []) 1 0) ≡ event_at (events_in t) place
unfolding event_at
event_at_place t pairs place e l h = rw e (nth_event t (length t / 2) (place - 1) (omega arith) (omega arith))

-- ---- readings, one by one
pub readings_end : (t : List ℕ) → length t < 3 → readings_in t ≡ []
unfolding readings_in
readings_end [] h = refl
readings_end (k ∷ []) h = refl
readings_end (k ∷ a ∷ []) h = refl
readings_end (k ∷ a ∷ v ∷ t) h = absurd (omega arith)

pub readings_step : (t : List ℕ) → 3 ≤ length t → readings_in t ≡ record { kind = get_or t 0 0; argument = get_or t 1 0; value = get_or t 2 0 } ∷ readings_in (drop 3 t)
unfolding readings_in
readings_step [] h = absurd (omega arith)
readings_step (k ∷ []) h = absurd (omega arith)
readings_step (k ∷ a ∷ []) h = absurd (omega arith)
readings_step (k ∷ a ∷ v ∷ t) h = refl

pub readings_counted : (t : List ℕ) → length (readings_in t) ≡ length t / 3
unfolding readings_in
readings_counted [] = refl
readings_counted (k ∷ []) = refl
readings_counted (k ∷ a ∷ []) = refl
readings_counted (k ∷ a ∷ v ∷ t) = omega (arith, readings_counted t)

-- bytes that are left over are no reading
pub readings_whole : (t : List ℕ) → readings_in (take (3 * (length t / 3)) t) ≡ readings_in t
unfolding readings_in
readings_whole [] = refl
readings_whole (k ∷ []) = refl
readings_whole (k ∷ a ∷ []) = refl
readings_whole (k ∷ a ∷ v ∷ t) =
    let e : 3 * (length (k ∷ a ∷ v ∷ t) / 3) ≡ suc (suc (suc (3 * (length t / 3)))) = omega arith in
    rw e (ap (λ (items : List Reading). record { kind = k; argument = a; value = v } ∷ items) (readings_whole t))

pub readings_in_written : (t : List ℕ) (n : ℕ) → length t ≡ 3 * n → each_written one_reading (readings_in t) ≡ t
unfolding readings_in
readings_in_written [] n h = refl
readings_in_written (k ∷ []) n h = absurd (omega arith)
readings_in_written (k ∷ a ∷ []) n h = absurd (omega arith)
readings_in_written (k ∷ a ∷ v ∷ t) zero h = absurd (omega arith)
readings_in_written (k ∷ a ∷ v ∷ t) (suc n) h = ap (λ (u : List ℕ). k ∷ a ∷ v ∷ u) (readings_in_written t n (omega arith))

-- ---- the codes of a situation
field_back : (w m : ℕ) (rest : List ℕ) → (section w).writes m ≡ true → value 0 (section w) ((section w).written m ++ rest) ≡ m
unfolding value
field_back w m rest h = rw ((section_law w).back m rest h)

-- the codes where a mark and a count follow, or nothing, which says zero
codes_before : (m : Letters) (c : Codes) (rest : List ℕ) → FieldsFit c → get_or rest 0 0 ≡ c.mark → get_or rest 1 0 ≡ c.count
    → codes_at ((letters m (named codes_made code_parts (body (left_out 0)))).written c ++ rest) ≡ c
unfolding codes_at
codes_before m c rest f mark count =
    let ha = (section 2).written c.helda ++ rest in
    let hb = (section 2).written c.heldb ++ ha in
    rw (field_back 2 c.occupied hb f.occupied, field_back 2 c.heldb ha f.heldb, field_back 2 c.helda rest f.helda, mark, count)

pub codes_written_at : (c : Codes) → situation.writes c ≡ true → codes_at (situation.written c) ≡ c
codes_written_at c h = ap codes_at (written_as c h) ∙ by (both_zero c) refl
  where
    f : FieldsFit c
    f = fields_fit c (SJ_says c h)

    by : (v : Bool) → both_zero c ≡ v → codes_at (if v then without_watch.written c else with_watch.written c) ≡ c
    by true e =
        let z = both (eqb c.mark 0) (eqb c.count 0) e in
        codes_before SI c [] f (sym (eqb-true c.mark 0 z.0)) (sym (eqb-true c.count 0 z.1))
    by false e = codes_before SJ c (c.mark ∷ c.count ∷ []) f refl refl

-- a record by itself
pub codes_alone : (s : List ℕ) (c : Codes) → whole situation s ≡ accepted c → codes_at s ≡ c
codes_alone s c h =
    let o = Whole.one_form situation_law.lawful s c h in
    ap codes_at (sym o.1) ∙ codes_written_at c o.0

pub situation_long : (s : List ℕ) → is_accepted (whole situation s) ≡ true → 21 ≤ length s
situation_long s h = by (whole situation s) refl h
  where
    by : (w : Whole Codes) → whole situation s ≡ w → is_accepted w ≡ true → 21 ≤ length s
    by refused e f = absurd (false≢true f)
    by (accepted c) e f = omega (arith, long_enough c, ap length (Whole.one_form situation_law.lawful s c e).1)

-- ---- the plan
pub plan_written_at : (p : Plan) (rest : List ℕ) → plan_at (plan.written p ++ rest) ≡ p
plan_written_at p rest = ap (λ (t : List ℕ). plan_at (t ++ rest)) (plan_written_as p) ∙ by p.rules2012 refl
  where
    by : (v : Bool) → p.rules2012 ≡ v → plan_at ((if v then of_2012.written p else of_2024.written p) ++ rest) ≡ p
    by true e = same_plan p (sym e)
    by false e = same_plan p (sym e)

pub plan_long : (s : List ℕ) → is_accepted (whole plan s) ≡ true → 4 ≤ length s
plan_long s h = by (whole plan s) refl h
  where
    by : (w : Whole Plan) → whole plan s ≡ w → is_accepted w ≡ true → 4 ≤ length s
    by refused e f = absurd (false≢true f)
    by (accepted p) e f = omega (arith, plan_long_enough p, ap length (Whole.one_form plan_law.lawful s p e).1)

pub plan_alone : (s : List ℕ) (p : Plan) → whole plan s ≡ accepted p → plan_at s ≡ p
plan_alone s p h = ap plan_at (sym (append-nil (plan.written p) ∙ (Whole.one_form plan_law.lawful s p h).1)) ∙ plan_written_at p []
