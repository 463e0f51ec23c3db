-- What a question in range tells of its numbers and of its exact answer. Assumes nothing.
use Rattle.std.specs.Prelude.{if◌then◌else◌}
use mathlib.Core.Path.{◌≡◌, sym, subst}
use mathlib.Core.Logic.{◌⊎◌, inl, inr}
use Prim.Native.Nat.{ℕ, ◌*◌, ◌^◌, ◌≤◌, ◌<◌}
use native.Mathlib.Nat.{mul-le-mul, mul-pos}
use native.Mathlib.Omega.{arith}
use mathlib.Core.Bool.{Bool, true, false, ◌&&◌, ◌||◌}
use lib.Dec.{T, leb, eqb, leb→le, eqb→eq}
use lib.Ieee.Fits.{and_l, and_r}
use borrow.Author.Tests.{eq-eqb, ne_eqb}
use Rattle.numeric.specs.Exact.{Fraction, in_range, exact_answer, ◌÷◌}
use Rattle.numeric.specs.Inner.{Small}

pub record Ranged (kind amount speed tolerance : ℕ) : Type 0 where
  pub kinds : ((kind ≡ 1) × (amount ≤ 20000)) ⊎ ((kind ≡ 2) × (amount ≤ 10000))
  pub amount_first : 1 ≤ amount
  pub speed_first : 1 ≤ speed
  pub speed_last : speed ≤ 200
  pub tolerance_last : tolerance ≤ 10000

pub ranged : (kind amount speed tolerance : ℕ) → T (in_range kind amount speed tolerance) → Ranged kind amount speed tolerance
ranged kind amount speed tolerance h =
    let p = all_five (eqb kind 1 && leb amount 20000 || eqb kind 2 && leb amount 10000) (leb 1 amount) (leb 1 speed) (leb speed 200) (leb tolerance 10000) h in
    record {
      kinds = either (eqb kind 1 && leb amount 20000) (eqb kind 2 && leb amount 10000) (named 1 20000) (named 2 10000) p.0;
      amount_first = leb→le 1 amount p.1;
      speed_first = leb→le 1 speed p.2;
      speed_last = leb→le speed 200 p.3;
      tolerance_last = leb→le tolerance 10000 p.4;
    }
  where
    all_five : (k a b c d : Bool) → T (k && a && b && c && d) → T k × T a × T b × T c × T d
    all_five true true true true true h = (tt, tt, tt, tt, tt)
    all_five false a b c d h = absurd h
    all_five true false b c d h = absurd h
    all_five true true false c d h = absurd h
    all_five true true true false d h = absurd h
    all_five true true true true false h = absurd h

    either : {X Y : Type 0} (a b : Bool) → (T a → X) → (T b → Y) → T (a || b) → X ⊎ Y
    either true b f g t = inl (f t)
    either false b f g t = inr (g t)

    named : (n most : ℕ) → T (eqb kind n && leb amount most) → (kind ≡ n) × (amount ≤ most)
    named n most t = (eqb→eq kind n (and_l (eqb kind n) (leb amount most) t), leb→le amount most (and_r (eqb kind n) (leb amount most) t))

-- whole numbers that an f32 holds
pub under_24 : (n : ℕ) → n ≤ 10000000 → n < 2 ^ 24
under_24 n h = omega arith

-- the exact answer is small, and below 2 ^ 20
abbrev pub Low : Fraction → Type 0
Low t = Small t × (t.top < 2 ^ 20 * t.bottom)

seconds_low : (amount speed : ℕ) → 1 ≤ amount → amount ≤ 20000 → 1 ≤ speed → speed ≤ 200 → Low (18 * amount ÷ (5 * speed))
seconds_low amount speed a1 a2 s1 s2 =
    (record { above = omega arith; top = omega arith; bottom = omega arith; small = omega arith }, omega arith)

pub metres_top : (amount speed : ℕ) → amount ≤ 10000 → speed ≤ 200 → 5 * speed * amount ≤ 10000000
metres_top amount speed a2 s2 = mul-le-mul {n₁ = 5 * speed} {n₂ = 1000} (omega arith) a2

metres_low : (amount speed : ℕ) → 1 ≤ amount → amount ≤ 10000 → 1 ≤ speed → speed ≤ 200 → Low (5 * speed * amount ÷ 18)
metres_low amount speed a1 a2 s1 s2 =
    let most = metres_top amount speed a2 s2 in
    (record { above = mul-pos {m = 5 * speed} (omega arith) a1; top = most; bottom = omega arith; small = omega arith }, omega arith)

pub low : (kind amount speed tolerance : ℕ) → T (in_range kind amount speed tolerance) → Low (exact_answer kind amount speed)
low kind amount speed tolerance h =
    let r = ranged kind amount speed tolerance h in
    elim r.kinds [
      | inl e ↦ subst (λ (b : Bool). Low (if b then 18 * amount ÷ (5 * speed) else 5 * speed * amount ÷ 18)) (sym (eq-eqb kind 1 e.0)) (seconds_low amount speed r.amount_first e.1 r.speed_first r.speed_last)
      | inr e ↦ subst (λ (b : Bool). Low (if b then 18 * amount ÷ (5 * speed) else 5 * speed * amount ÷ 18)) (sym (ne_eqb kind 1 (λ (f : kind ≡ 1). two_not_one kind e.0 f))) (metres_low amount speed r.amount_first e.1 r.speed_first r.speed_last)
    ]
  where
    two_not_one : (kind : ℕ) → kind ≡ 2 → kind ≡ 1 → ⊥
    two_not_one kind e f = omega arith
