-- Items as the code has them: as many as are counted, with zeros where there are no bytes for them. Assumes nothing.
use Prim.Native.Nat.{ℕ, ◌*◌, ◌/◌, ◌≤◌}
use mathlib.Core.Path.{◌≡◌, sym, ap, ◌∙◌}
use mathlib.Core.List.{List, ◌∷◌, ◌++◌, append-nil}
use native.Mathlib.Omega.{arith}
use lib.ListN.{length, take, drop, replicate, length-append, length-take, length-drop, length-replicate, drop_of_length-le}
use lib.Seq.{length-take-le, take_at}
use Rattle.records.specs.Lists.{events, readings}
use Rattle.records.specs.InBytes.{events_in, readings_in}
use Rattle.records.proofs.InBytes.{events_counted, events_in_written, readings_counted, readings_in_written}
use Rattle.questions.specs.InCode.{filled, counted, zeros_past}
use Rattle.questions.specs.declared.question.Items.{Items}

filled_long : (n : ℕ) (s : List ℕ) → length s ≤ n → length (filled n s) ≡ n
filled_long n s h = omega (arith, length-append s (drop (length s) (replicate {A = ℕ} n 0)), length-drop (length s) (replicate {A = ℕ} n 0), length-replicate {A = ℕ} n 0)

filled_full : (n : ℕ) (s : List ℕ) → length s ≡ n → filled n s ≡ s
filled_full n s h = ap (λ (t : List ℕ). s ++ t) (drop_of_length-le (replicate {A = ℕ} n 0) {i = length s} (omega (arith, length-replicate {A = ℕ} n 0))) ∙ append-nil s

-- ---- as many as are counted
module _ (w : ℕ) (items : Items w) where
  counted_long : length (counted w items) ≡ w * items.count
  counted_long = filled_long (w * items.count) (take (w * items.count) items.bytes) (omega (arith, length-take (w * items.count) items.bytes))

  pub counted_there : w * items.count ≤ length items.bytes → counted w items ≡ take (w * items.count) items.bytes
  counted_there h = filled_full (w * items.count) (take (w * items.count) items.bytes) (length-take-le (w * items.count) items.bytes h)

pub events_many : (items : Items 2) → length (events_in (counted 2 items)) ≡ items.count
events_many items = omega (arith, events_counted (counted 2 items), counted_long 2 items)

pub readings_many : (items : Items 3) → length (readings_in (counted 3 items)) ≡ items.count
readings_many items = omega (arith, readings_counted (counted 3 items), counted_long 3 items)

-- ---- as they are read: items that fill their bytes
abbrev pub Filled : (w : ℕ) → List ℕ → Items w → Type 0
Filled w s items = (items.count ≡ length s / w) × (items.bytes ≡ filled 24 s)

module _ (w : ℕ) (s : List ℕ) (whole : length s ≡ w * (length s / w)) (items : Items w) (f : Filled w s items) where
  kept : take (w * items.count) items.bytes ≡ s
  kept = rw (f.0, f.1) (take_at s _ (w * (length s / w)) whole)

  pub counted_kept : counted w items ≡ s
  counted_kept = rw (kept, f.0) (filled_full (w * (length s / w)) s whole)

  pub zeros_kept : zeros_past w items ≡ items
  zeros_kept = ap (λ (t : List ℕ). record { count = items.count; bytes = t }) (ap (filled 24) kept ∙ sym f.1)

-- ---- as they are written
pub events_laid : (items : Items 2) → 2 * items.count ≤ length items.bytes → 69 ∷ 86 ∷ items.count ∷ take (2 * items.count) items.bytes ≡ events.written (events_in (counted 2 items))
unfolding events
events_laid items h = rw (events_many items, counted_there 2 items h, events_in_written (take (2 * items.count) items.bytes) items.count (length-take-le (2 * items.count) items.bytes h))

pub readings_laid : (items : Items 3) → 3 * items.count ≤ length items.bytes → 82 ∷ 68 ∷ items.count ∷ take (3 * items.count) items.bytes ≡ readings.written (readings_in (counted 3 items))
unfolding readings
readings_laid items h = rw (readings_many items, counted_there 3 items h, readings_in_written (take (3 * items.count) items.bytes) items.count (length-take-le (3 * items.count) items.bytes h))
