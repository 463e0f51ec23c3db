-- `halved_down`: the halvings that are left give what was asked; below the lower side they change nothing in the quotient.
use mathlib.Core.Path.{◌≡◌, sym, ap, ◌∙◌}
use Prim.Native.Nat.{ℕ, ◌-◌, ◌*◌, ◌/◌, ◌^◌}
use native.Mathlib.Nat.{div-div-eq-div-mul, mul-pos}
use native.Mathlib.Omega.{arith}
use lib.Pow.{pow_pos}
use Rattle.std.specs.Int.{div_ceil}
use Rattle.numeric.proofs.Stepping.{up, up_up, ceil_is, div_on, up_on, div_done, up_done, low_below, high_below, lower_is}
use Rattle.numeric.proofs.scaled.halved_down.Goals.{else-loop-at-test, then-loop-at-test+then-low-lower}
use Rattle.numeric.proofs.scaled.halved_down.Goals as goal

pub loop-at-preserved : goal.loop-at-preserved
loop-at-preserved c =
    let l = c.loop-at in
    let a = c.args in
    record {
      low_left = div_on l.low a.k l._at (a.upper / 2 ^ (a.k - a.to)) (omega arith) l.invariant.low_left;
      high_left = up_on l.high c.div_ceil-high.result a.k l._at (up a.upper (2 ^ (a.k - a.to))) c.div_ceil-high.ensures (omega arith) l.invariant.high_left;
      held = omega arith;
      near = omega arith;
    }

pub returns-clause-low : goal.returns-clause-low
returns-clause-low c =
    let l = c.loop-at in
    let a = c.args in
    let d = a.k - l._at in
    let still : l.low / 2 ^ a.to ≡ l.low / 2 ^ d / 2 ^ a.to = elim c.loop-at-test.branch [
      | else-loop-at-test w ↦ (let none : d ≡ 0 = omega (arith, w.loop-at-test) in ap (λ (z : ℕ). z / 2 ^ a.to) (div_done l.low d none))
      | then-loop-at-test+then-low-lower w ↦ low_below l.low d (2 ^ a.to) (omega (arith, w.if-low-lower, lower_is a.to c.requires.few))
    ] in
    rw (lower_is a.to c.requires.few) (still ∙ ap (λ (z : ℕ). z / 2 ^ a.to) l.invariant.low_left ∙ div-div-eq-div-mul a.upper (2 ^ (a.k - a.to)) (2 ^ a.to))

pub returns-clause-high : goal.returns-clause-high
returns-clause-high c =
    let l = c.loop-at in
    let a = c.args in
    let d = a.k - l._at in
    let still : up l.high (2 ^ a.to) ≡ up (up l.high (2 ^ d)) (2 ^ a.to) = elim c.loop-at-test.branch [
      | else-loop-at-test w ↦ (let none : d ≡ 0 = omega (arith, w.loop-at-test) in ap (λ (z : ℕ). up z (2 ^ a.to)) (up_done l.high d none))
      | then-loop-at-test+then-low-lower w ↦ high_below l.high d (2 ^ a.to) (pow_pos a.to) (omega (arith, w.if-low-lower, lower_is a.to c.requires.few, l.invariant.near))
    ] in
    c.div_ceil.ensures
    ∙ ap (λ (z : ℕ). div_ceil l.high z) (lower_is a.to c.requires.few)
    ∙ ceil_is l.high (2 ^ a.to) (pow_pos a.to)
    ∙ still
    ∙ ap (λ (z : ℕ). up z (2 ^ a.to)) l.invariant.high_left
    ∙ up_up a.upper (2 ^ (a.k - a.to)) (2 ^ a.to) (pow_pos (a.k - a.to)) (pow_pos a.to)
    ∙ sym (ceil_is a.upper (2 ^ (a.k - a.to) * 2 ^ a.to) (mul-pos (pow_pos (a.k - a.to)) (pow_pos a.to)))
