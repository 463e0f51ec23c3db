-- What a caller may count on of lists of which no check fails. Assumes nothing.
use Rattle.std.specs.Prelude.{Ok, Err, if◌then◌else◌}
use Prim.Native.Nat.{ℕ, zero, suc, ◌≤◌, ◌<◌}
use mathlib.Core.Path.{◌≡◌, refl, sym, ap, ◌∙◌}
use mathlib.Core.Bool.{Bool, true, false, not}
use mathlib.Core.List.{List, [], ◌∷◌}
use native.Mathlib.Omega.{arith}
use borrow.Author.Tests.{leb-true, ne_eqb, not-true}
use lib.ListN.{length, get_or}
use lib.Dec.{T, leb}
use Rattle.words.specs.Words.{◌and◌}
use Rattle.words.proofs.Tests.{is_holds}
use Rattle.block.specs.Refusals.{number, told}
use Rattle.block.specs.declared.refused.Refusal.{Refusal}
use Rattle.block.specs.declared.line.Plan.{Plan}
use Rattle.block.specs.declared.event.Event.{Event}
use Rattle.block.specs.declared.reading.Reading.{Reading}
use Rattle.rulebook.specs.Apply.{known, argument_right}
use Rattle.signals.specs.Readings.{reading_in_range}
use Rattle.forms.proofs.Reading.{both}
use Rattle.lists.specs.Refusal.{◌unless◌, ◌or_else◌, event_refusal, events_refusal, listed_twice, readings_in_range, lists_refusal}

-- ---- no check fails
pub or_else_none : (r later : ℕ) → r or_else later ≡ 0 → (r ≡ 0) × (later ≡ 0)
or_else_none zero later h = (refl, h)
or_else_none (suc n) later h = let e : suc n ≡ 0 → ⊥ = λ z. omega arith in absurd (omega (arith, rw (ne_eqb (suc n) 0 e) at h))

pub unless_none : (n : ℕ) (right : Bool) → (suc n) unless right ≡ 0 → right ≡ true
unless_none n true h = refl
unless_none n false h = absurd (omega arith)

-- ---- the first refusal
pub first_refusal : {r a : ℕ} (later : ℕ) → r ≡ a → (r ≡ 0 → ⊥) → a or_else later ≡ r
first_refusal {r} later e z = ap (λ (b : ℕ). b or_else later) (sym e) ∙ rw (ne_eqb r 0 z)

pub next_refusal : {r a : ℕ} (later : ℕ) → r ≡ a → r ≡ 0 → a or_else later ≡ later
next_refusal later e z = ap (λ (b : ℕ). b or_else later) (sym e ∙ z)

pub unless_is : (r : Refusal) (right : Bool) → told {A = Unit {0}} (if not right then Err r else Ok tt) ≡ number r unless right
unless_is r true = refl
unless_is r false = refl

module _ (p : Plan) (events : List Event) (readings : List Reading) (longest : ℕ) {r : ℕ} (told : r ≡ events_refusal p events) where
  pub refused_for_events : (r ≡ 0 → ⊥) → lists_refusal p events readings longest ≡ r
  unfolding lists_refusal
  refused_for_events z = first_refusal _ told z

  pub refused_later : r ≡ 0 → lists_refusal p events readings longest ≡ 21 unless (leb longest 5 and not (listed_twice events) and readings_in_range p readings)
  unfolding lists_refusal
  refused_later z = next_refusal _ told z

-- the two checks of an event in order, written otherwise
pub by_both : (p : Plan) (e : Event) → (if not (known e) then 3 else if not (argument_right p e) then 4 else 0) ≡ event_refusal p e
unfolding event_refusal
by_both p e = by (known e) (argument_right p e)
  where
    by : (k a : Bool) → (if not k then 3 else if not a then 4 else 0) ≡ 3 unless k or_else 4 unless a
    by false a = refl
    by true false = refl
    by true true = refl

-- ---- item by item: d is what would be read past the end
pub event_right : (p : Plan) (e : Event) → event_refusal p e ≡ 0 → (known e ≡ true) × (argument_right p e ≡ true)
unfolding event_refusal
event_right p e h =
    let a = or_else_none (3 unless known e) (4 unless argument_right p e) h in
    (unless_none 2 (known e) a.0, unless_none 3 (argument_right p e) a.1)

pub each_event : (p : Plan) (events : List Event) (d : Event) (i : ℕ) → i < length events → events_refusal p events ≡ 0
    → T (known (get_or events i d)) × T (argument_right p (get_or events i d))
unfolding events_refusal
each_event p [] d i l h = absurd (omega arith)
each_event p (e ∷ rest) d zero l h = let r = event_right p e (or_else_none (event_refusal p e) _ h).0 in (is_holds _ r.0, is_holds _ r.1)
each_event p (e ∷ rest) d (suc i) l h = each_event p rest d i (omega arith) (or_else_none (event_refusal p e) _ h).1

pub each_reading : (p : Plan) (readings : List Reading) (d : Reading) (i : ℕ) → i < length readings → readings_in_range p readings ≡ true
    → T (reading_in_range p (get_or readings i d).kind (get_or readings i d).argument (get_or readings i d).value)
unfolding readings_in_range
each_reading p [] d i l h = absurd (omega arith)
each_reading p (r ∷ rest) d zero l h = is_holds _ (both (reading_in_range p r.kind r.argument r.value) _ h).0
each_reading p (r ∷ rest) d (suc i) l h = each_reading p rest d i (omega arith) (both (reading_in_range p r.kind r.argument r.value) _ h).1

pub record ListsRight (p : Plan) (events : List Event) (readings : List Reading) (longest : ℕ) : Type 0 where
  pub events_right : events_refusal p events ≡ 0
  pub short : longest ≤ 5
  pub once : listed_twice events ≡ false
  pub readings_right : readings_in_range p readings ≡ true

pub lists_right : (p : Plan) (events : List Event) (readings : List Reading) (longest : ℕ) → lists_refusal p events readings longest ≡ 0 → ListsRight p events readings longest
unfolding lists_refusal
lists_right p events readings longest h =
    let a = or_else_none (events_refusal p events) _ h in
    let t = unless_none 20 (leb longest 5 and not (listed_twice events) and readings_in_range p readings) a.1 in
    let b = both (leb longest 5 and not (listed_twice events)) (readings_in_range p readings) t in
    let c = both (leb longest 5) (not (listed_twice events)) b.0 in
    record { events_right = a.0; short = leb-true _ _ c.0; once = not-true _ c.1; readings_right = b.1 }
