-- From a fraction's cut values to those of its distance from a goal, and from these to the verdict and the error. Assumes nothing.
use Rattle.std.specs.Prelude.{if◌then◌else◌}
use mathlib.Core.Path.{◌≡◌, sym, ap, ◌∙◌, subst}
use mathlib.Core.Logic.{inl, inr, ◌↔◌}
use Prim.Native.Nat.{ℕ, ◌+◌, ◌-◌, ◌*◌, ◌/◌, ◌%◌, ◌^◌, ◌≤◌, ◌<◌, min}
use native.Mathlib.Nat.{le_trans, le_of_eq, le_of_lt, lt_of_not-le, not-le_of_lt, le_antisymm, add-zero, add-mul, mul_comm, mul_assoc, mul-le-mul, mul-le-mul_right, le_of_mul-le-mul_right, mul-pos, mul-mod_left, div-add-mod', le-div_iff_mul-le, div-lt_iff_lt-mul, eq-zero-or-pos, ne_of_gt}
use native.Mathlib.Omega.{arith}
use mathlib.Core.Bool.{Bool, true, false, ◌||◌}
use lib.Dec.{leb, ltb, eqb}
use lib.Pow.{pow_pos}
use borrow.Author.Tests.{eq-eqb, ne_eqb, lt-ltb, le-ltb}
use Rattle.numeric.specs.Exact.{Fraction, Value, apart, distance, below}
use Rattle.numeric.specs.Inner.{cut_down, cut_up, Cuts}
use Rattle.numeric.proofs.Comparing.{sub_mul, leb_alike, same_below}

-- ---- cut_down and cut_up cut
pub up_at : (v w : ℕ) → v % w ≡ 0 → cut_up v w ≡ cut_down v w
up_at v w e = ap (λ (b : Bool). cut_down v w + (if b then 0 else 1)) (eq-eqb (v % w) 0 e) ∙ add-zero (cut_down v w)

pub up_past : (v w : ℕ) → (v % w ≡ 0 → ⊥) → cut_up v w ≡ cut_down v w + 1
up_past v w n = ap (λ (b : Bool). cut_down v w + (if b then 0 else 1)) (ne_eqb (v % w) 0 n)

whole : (v w : ℕ) → v % w ≡ 0 → v / w * w ≡ v
whole v w e = sym (add-zero (v / w * w)) ∙ ap (λ (z : ℕ). v / w * w + z) (sym e) ∙ div-add-mod' v w

strictly : (v w k : ℕ) → 0 < v % w → v ≤ k * w → v < k * w
strictly v w k h g = lt_of_not-le (λ (l : k * w ≤ v). ne_of_gt h (ap (λ (z : ℕ). z % w) (le_antisymm g l) ∙ mul-mod_left k w))

most : (v w k : ℕ) → 0 < w → k < 2 ^ 44 → (cut_up v w ≤ k) ↔ (v ≤ k * w)
most v w k P h =
    elim (eq-zero-or-pos (v % w)) [
      | inl e ↦ (
        (λ (g : cut_up v w ≤ k). le_trans (le_of_eq (sym (whole v w e))) (mul-le-mul_right w (under k (v / w) h (subst (λ (z : ℕ). z ≤ k) (up_at v w e) g)))),
        (λ (g : v ≤ k * w). subst (λ (z : ℕ). z ≤ k) (sym (up_at v w e)) (cut k (v / w) (le_of_mul-le-mul_right (le_trans (le_of_eq (whole v w e)) g) P))),
      )
      | inr p ↦ (
        (λ (g : cut_up v w ≤ k). le_of_lt ((div-lt_iff_lt-mul P).0 (less k (v / w) h (subst (λ (z : ℕ). z ≤ k) (up_past v w (ne_of_gt p)) g)))),
        (λ (g : v ≤ k * w). subst (λ (z : ℕ). z ≤ k) (sym (up_past v w (ne_of_gt p))) (cut' k (v / w) ((div-lt_iff_lt-mul P).1 (strictly v w k p g)))),
      )
    ]
  where
    under : (k x : ℕ) → k < 2 ^ 44 → min x (2 ^ 44) ≤ k → x ≤ k
    under k x h g = omega arith

    cut : (k x : ℕ) → x ≤ k → min x (2 ^ 44) ≤ k
    cut k x h = omega arith

    less : (k x : ℕ) → k < 2 ^ 44 → min x (2 ^ 44) + 1 ≤ k → x < k
    less k x h g = omega arith

    cut' : (k x : ℕ) → x < k → min x (2 ^ 44) + 1 ≤ k
    cut' k x h = omega arith

cuts_of : (v w : ℕ) → 0 < w → Cuts (2 ^ 44) v w (cut_down v w) (cut_up v w)
cuts_of v w P = record {
  at_least = λ k h. ((λ g. (le-div_iff_mul-le P).0 (under k (v / w) g)), (λ g. over k (v / w) h ((le-div_iff_mul-le P).1 g)));
  at_most = λ k h. most v w k P h;
}
  where
    under : (k x : ℕ) → k ≤ min x (2 ^ 44) → k ≤ x
    under k x h = omega arith

    over : (k x : ℕ) → k ≤ 2 ^ 44 → k ≤ x → k ≤ min x (2 ^ 44)
    over k x h g = omega arith

pub cuts_at : (v w v' low high : ℕ) → 0 < w → v ≡ v' → low ≡ cut_down v w → high ≡ cut_up v w → Cuts (2 ^ 44) v' w low high
cuts_at v w v' low high P e l h =
    subst (λ (z : ℕ). Cuts (2 ^ 44) z w low high) e (subst (λ (z : ℕ). Cuts (2 ^ 44) v w low z) (sym h) (subst (λ (z : ℕ). Cuts (2 ^ 44) v w z (cut_up v w)) (sym l) (cuts_of v w P)))

pub close : (v w low high : ℕ) → low ≡ cut_down v w → high ≡ cut_up v w → (low ≤ high) × (high ≤ low + 1)
close v w low high l h = near (cut_down v w) (eqb (v % w) 0) l h
  where
    near : (x : ℕ) (b : Bool) → low ≡ x → high ≡ x + (if b then 0 else 1) → (low ≤ high) × (high ≤ low + 1)
    near x true l h = (omega arith, omega arith)
    near x false l h = (omega arith, omega arith)

pub held : (v w low : ℕ) → low ≡ cut_down v w → low ≤ 2 ^ 44
held v w low l = top (v / w) l
  where
    top : (x : ℕ) → low ≡ min x (2 ^ 44) → low ≤ 2 ^ 44
    top x l = omega arith

-- ---- the distance of a / c from the whole number goal
module _ (a c low high goal : ℕ) (C : 0 < c) (cuts : Cuts (2 ^ 44) a c low high) where
  -- a / c on the other side of zero
  pub cuts_negative : Cuts (2 ^ 43) (a + goal * c) c (low + goal) (high + goal)
  cuts_negative = record {
    at_least = λ k h. (
      (λ g.
          let l = (cuts.at_least (k - goal) (omega arith)).0 (omega arith) in
          omega (arith, sub_mul k goal c)),
      (λ g.
          let l : (k - goal) * c ≤ a = omega (arith, sub_mul k goal c) in
          omega (arith, (cuts.at_least (k - goal) (omega arith)).1 l)),
    );
    at_most = λ k h. (
      (λ g.
          let l = (cuts.at_most (k - goal) (omega arith)).0 (omega arith) in
          omega (arith, sub_mul k goal c, mul-le-mul_right {m = goal} {n = k} c (omega arith))),
      (λ g.
          let n : goal ≤ k = le_of_mul-le-mul_right {m = goal} {n = k} {k = c} (omega arith) C in
          let l : a ≤ (k - goal) * c = omega (arith, sub_mul k goal c) in
          omega (arith, (cuts.at_most (k - goal) (omega arith)).1 l)),
    );
  }

  -- a / c below the goal
  module _ (small : goal < 2 ^ 43) (near : high ≤ low + 1) (less : low < goal) where
    a_le : a ≤ goal * c
    a_le = (cuts.at_most goal (omega arith)).0 (omega arith)

    pub a_lt : a < goal * c
    a_lt = lt_of_not-le (λ (h : goal * c ≤ a). not-le_of_lt less ((cuts.at_least goal (omega arith)).1 h))

    pub cuts_below : Cuts (2 ^ 43) (apart a (goal * c)) c (goal - high) (goal - low)
    cuts_below = record {
      at_least = λ k h. (
        (λ g.
            let l = (cuts.at_most (goal - k) (omega arith)).0 (omega arith) in
            omega (arith, a_le, sub_mul goal k c, mul-le-mul_right {m = k} {n = goal} c (omega arith))),
        (λ g.
            let n : k ≤ goal = le_of_mul-le-mul_right {m = k} {n = goal} {k = c} (omega (arith, a_le)) C in
            let l : a ≤ (goal - k) * c = omega (arith, a_le, sub_mul goal k c) in
            omega (arith, (cuts.at_most (goal - k) (omega arith)).1 l)),
      );
      at_most = λ k h. (
        (λ g.
            let l = (cuts.at_least (goal - k) (omega arith)).0 (omega arith) in
            omega (arith, a_le, sub_mul goal k c)),
        (λ g.
            let l : (goal - k) * c ≤ a = omega (arith, a_le, sub_mul goal k c) in
            omega (arith, (cuts.at_least (goal - k) (omega arith)).1 l)),
      );
    }

  -- a / c at the goal or above
  module _ (small : goal < 2 ^ 43) (more : goal ≤ low) where
    pub a_ge : goal * c ≤ a
    a_ge = (cuts.at_least goal (omega arith)).0 more

    pub cuts_above : Cuts (2 ^ 43) (apart a (goal * c)) c (low - goal) (high - goal)
    cuts_above = record {
      at_least = λ k h. (
        (λ g.
            let l = (cuts.at_least (k + goal) (omega arith)).0 (omega arith) in
            omega (arith, a_ge, add-mul k goal c)),
        (λ g.
            let l : (k + goal) * c ≤ a = omega (arith, a_ge, add-mul k goal c) in
            omega (arith, (cuts.at_least (k + goal) (omega arith)).1 l)),
      );
      at_most = λ k h. (
        (λ g.
            let l = (cuts.at_most (k + goal) (omega arith)).0 (omega arith) in
            omega (arith, a_ge, add-mul k goal c)),
        (λ g.
            let l : a ≤ (k + goal) * c = omega (arith, a_ge, add-mul k goal c) in
            omega (arith, (cuts.at_most (k + goal) (omega arith)).1 l)),
      );
    }

-- ---- the distance of a value from the fraction t, in thousandths
module _ (t : Fraction) (v : Value) (low high : ℕ) (C : 0 < v.under) (cuts : Cuts (2 ^ 44) (1000 * t.bottom * v.over) v.under low high) where
  mine : 1000 * t.bottom * v.over ≡ 1000 * (v.over * t.bottom)
  mine = mul_assoc 1000 t.bottom v.over ∙ ap (λ (z : ℕ). 1000 * z) (mul_comm t.bottom v.over)

  theirs : 1000 * t.top * v.under ≡ 1000 * (t.top * v.under)
  theirs = mul_assoc 1000 t.top v.under

  summed : 1000 * t.bottom * v.over + 1000 * t.top * v.under ≡ 1000 * (v.over * t.bottom + t.top * v.under)
  summed = omega (arith, mine, theirs)

  parted : apart (1000 * t.bottom * v.over) (1000 * t.top * v.under) ≡ 1000 * apart (v.over * t.bottom) (t.top * v.under)
  parted = omega (arith, mine, theirs)

  pub gap_negative : v.minus ≡ true → (true ≡ below t v) × Cuts (2 ^ 43) (1000 * distance t v) v.under (low + 1000 * t.top) (high + 1000 * t.top)
  gap_negative e = (
    sym (ap (λ (b : Bool). b || ltb (v.over * t.bottom) (t.top * v.under)) e),
    subst (λ (d : ℕ). Cuts (2 ^ 43) d v.under (low + 1000 * t.top) (high + 1000 * t.top))
        (summed ∙ sym (ap (λ (b : Bool). 1000 * (if b then v.over * t.bottom + t.top * v.under else apart (v.over * t.bottom) (t.top * v.under))) e))
        (cuts_negative (1000 * t.bottom * v.over) v.under low high (1000 * t.top) C cuts),
  )

  module _ (e : v.minus ≡ false) (small : 1000 * t.top < 2 ^ 43) where
    parts : (x y : ℕ) → Cuts (2 ^ 43) (apart (1000 * t.bottom * v.over) (1000 * t.top * v.under)) v.under x y → Cuts (2 ^ 43) (1000 * distance t v) v.under x y
    parts x y =
        subst (λ (d : ℕ). Cuts (2 ^ 43) d v.under x y)
        (parted ∙ sym (ap (λ (b : Bool). 1000 * (if b then v.over * t.bottom + t.top * v.under else apart (v.over * t.bottom) (t.top * v.under))) e))

    side : (b : Bool) → ltb (v.over * t.bottom) (t.top * v.under) ≡ b → b ≡ below t v
    side b h = sym (ap (λ (s : Bool). s || ltb (v.over * t.bottom) (t.top * v.under)) e ∙ h)

    pub gap_below : high ≤ low + 1 → low < 1000 * t.top → (true ≡ below t v) × Cuts (2 ^ 43) (1000 * distance t v) v.under (1000 * t.top - high) (1000 * t.top - low)
    gap_below near less = (
      side true (lt-ltb (v.over * t.bottom) (t.top * v.under) (omega (arith, mine, theirs, a_lt (1000 * t.bottom * v.over) v.under low high (1000 * t.top) C cuts small near less))),
      parts (1000 * t.top - high) (1000 * t.top - low) (cuts_below (1000 * t.bottom * v.over) v.under low high (1000 * t.top) C cuts small near less),
    )

    pub gap_above : 1000 * t.top ≤ low → (false ≡ below t v) × Cuts (2 ^ 43) (1000 * distance t v) v.under (low - 1000 * t.top) (high - 1000 * t.top)
    gap_above more = (
      side false (le-ltb (v.over * t.bottom) (t.top * v.under) (omega (arith, mine, theirs, a_ge (1000 * t.bottom * v.over) v.under low high (1000 * t.top) C cuts small more))),
      parts (low - 1000 * t.top) (high - 1000 * t.top) (cuts_above (1000 * t.bottom * v.over) v.under low high (1000 * t.top) C cuts small more),
    )

-- ---- the same from the number's own parts, as they are scaled: b and d are the numbers bottom and digits
pub scaled_cuts : (bottom digits power b d low high : ℕ) → b ≡ bottom → d ≡ digits → low ≡ cut_down (1000 * b * d * 2 ^ power) (2 ^ 149) → high ≡ cut_up (1000 * b * d * 2 ^ power) (2 ^ 149)
    → Cuts (2 ^ 44) (1000 * bottom * (digits * 2 ^ power)) (2 ^ 149) low high
scaled_cuts bottom digits power b d low high e f g h =
    cuts_at (1000 * b * d * 2 ^ power) (2 ^ 149) (1000 * bottom * (digits * 2 ^ power)) low high (pow_pos 149)
    (mul_assoc (1000 * b) d (2 ^ power) ∙ ap (λ (z : ℕ). 1000 * z * (d * 2 ^ power)) e ∙ ap (λ (z : ℕ). 1000 * bottom * (z * 2 ^ power)) f) g h

-- ---- the verdict and the error, from a distance d / (q * c) whose d / c is cut
module _ (d c low high q : ℕ) (cuts : Cuts (2 ^ 43) d c low high) where
  pub right_cut : (tolerance : ℕ) → tolerance * q ≤ 10000000 → leb high (tolerance * q) ≡ leb d (tolerance * (q * c))
  right_cut tolerance small =
      let k = cuts.at_most (tolerance * q) (omega arith) in
      leb_alike high (tolerance * q) d (tolerance * (q * c)) (
        (λ h. le_trans (k.0 h) (le_of_eq (mul_assoc tolerance q c))),
        (λ h. k.1 (le_trans h (le_of_eq (sym (mul_assoc tolerance q c))))),
      )

  pub error_cut : 0 < c → 0 < q → q ≤ 1000 → min (low / q) 1000000 ≡ min (d / (q * c)) 1000000
  error_cut C Q small = same_below (low / q) (d / (q * c)) 1000000 (λ k h.
      let l : k * q ≤ 1000000000 = mul-le-mul h small in
      let g = cuts.at_least (k * q) (omega arith) in (
        (λ e. (le-div_iff_mul-le (mul-pos Q C)).1 (le_trans (le_of_eq (sym (mul_assoc k q c))) (g.0 ((le-div_iff_mul-le Q).0 e)))),
        (λ e. (le-div_iff_mul-le Q).1 (g.1 (le_trans (le_of_eq (mul_assoc k q c)) ((le-div_iff_mul-le (mul-pos Q C)).0 e)))),
      ))
