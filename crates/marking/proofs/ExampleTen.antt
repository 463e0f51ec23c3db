-- Marked example 10: "1,000 m, 70 km/h, tolerance 0: no float is right." The exact answer is 360 / 7, and no multiple of 7 is 360 times a power of two. Assumes nothing.
use Rattle.std.specs.Prelude.{if◌then◌else◌}
use mathlib.Core.Path.{◌≡◌, refl, sym, ap, ◌∙◌, subst}
use Prim.Native.Nat.{ℕ, zero, suc, ◌+◌, ◌*◌, ◌/◌, ◌%◌, ◌^◌, ◌≤◌, ◌<◌}
use native.Mathlib.Nat.{pow-suc, zero-mul}
use native.Mathlib.Omega.{arith}
use mathlib.Core.Bool.{Bool, true, false}
use lib.Dec.{T, leb→le}
use lib.IntN.{ℤ, pos, negsuc}
use lib.Ieee.{Float, nan, inf, fin, up, down}
use lib.Ieee.Fits.{down_pos}
use Rattle.numeric.specs.Exact.{Fraction, Value, ◌÷◌, apart, distance, right, exact_value}
use Rattle.numeric.specs.Number.{number_verdict}
use Rattle.marking.specs.Sheet.{verdict_of, marked, Marked}
use Rattle.marking.specs.declared.Answer.{Answer}
use Rattle.marking.specs.declared.Answer.TheVariants.{Blank, Seconds, Metres}
use Rattle.marking.proofs.Lines.{marked_line}
use Rattle.marking.proofs.Units.{by_unit, asked_verdict}

abbrev ten : Fraction
ten = 18000 ÷ 350

halves : (m x : ℕ) → 7 * m ≡ 360 * (x * 2) → 7 * (m / 2) ≡ 360 * x
halves m x h = go (m % 2) refl
  where
    odd_even : (a b : ℕ) → 2 * a + 1 ≡ 2 * b → ⊥
    odd_even a b h = omega arith

    go : (r : ℕ) → m % 2 ≡ r → 7 * (m / 2) ≡ 360 * x
    go zero e = omega arith
    go (suc r) e = absurd (odd_even (7 * (m / 2) + 3) (360 * x) (omega arith))

no_seven : (j m : ℕ) → 7 * m ≡ 360 * 2 ^ j → ⊥
no_seven zero m e = omega arith
no_seven (suc j) m e = no_seven j (m / 2) (halves m (2 ^ j) (e ∙ ap (λ (z : ℕ). 360 * z) (pow-suc 2 j)))

-- at tolerance 0 the distance is none
no_distance : (v : Value) → T (right ten 0 v) → distance ten v ≡ 0
no_distance v h = none (distance ten v) (subst (λ (z : ℕ). 1000 * distance ten v ≤ z) (zero-mul (350 * v.under)) (leb→le (1000 * distance ten v) (0 * (350 * v.under)) h))
  where
    none : (d : ℕ) → 1000 * d ≤ 0 → d ≡ 0
    none d h = omega arith

not_exact : (s : Bool) (m : ℕ) (e : ℤ) → distance ten (exact_value (fin s m e)) ≡ 0 → ⊥
not_exact true m e h = above (m * up e * 350) (down e) (down_pos e) h
  where
    above : (a c : ℕ) → 0 < c → a + 18000 * c ≡ 0 → ⊥
    above a c C h = omega arith
not_exact false m e h = go e (seven (m * up e) (down e) h)
  where
    seven : (a c : ℕ) → apart (a * 350) (18000 * c) ≡ 0 → 7 * a ≡ 360 * c
    seven a c h = omega arith

    go : (e : ℤ) → 7 * (m * up e) ≡ 360 * down e → ⊥
    go (pos k) h = no_seven 0 (m * 2 ^ k) h
    go (negsuc k) h = no_seven (suc k) (m * 1) h

never_right : (x : Float) → number_verdict ten 0 x ≡ 1 → ⊥
never_right nan h = omega arith
never_right (inf s) h = omega arith
never_right (fin s m e) h = go (right ten 0 (exact_value (fin s m e))) (λ (r : T (right ten 0 (exact_value (fin s m e)))). not_exact s m e (no_distance (exact_value (fin s m e)) r)) h
  where
    go : (b : Bool) → (T b → ⊥) → ◌≡◌ {A = ℕ} (if b then 1 else 0) 1 → ⊥
    go true n h = n tt
    go false n h = omega arith

never_marked_right : (a : Answer) → verdict_of 1 ten 0 a ≡ 1 → ⊥
never_marked_right Blank h = omega arith
never_marked_right (Seconds x) h = never_right x (sym (asked_verdict ten 0 1 (Seconds x) refl) ∙ h)
never_marked_right (Metres x) h = three (verdict_of 1 ten 0 (Metres x)) (by_unit ten 0 1 1 (Metres x) refl refl false refl) h
  where
    three : (v : ℕ) → 3 ≡ v → v ≡ 1 → ⊥
    three v e h = omega arith

-- every answer is accepted, and none is right
pub no_float_is_right : (a : Answer) → ((marked 1 1000 70 0 a).refusal ≡ 0) × ((marked 1 1000 70 0 a).line.verdict ≡ 1 → ⊥)
no_float_is_right a =
    let m = marked_line 1 1000 70 0 a tt in
    (ap (λ (m : Marked). m.refusal) m, λ h. never_marked_right a (sym (ap (λ (m : Marked). m.line.verdict) m) ∙ h))
