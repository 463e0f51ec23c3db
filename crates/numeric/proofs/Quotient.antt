-- A quotient of two whole numbers that a float holds is the float nearest to their fraction. Assumes nothing.
use mathlib.Core.Path.{◌≡◌, sym, ◌∙◌, subst}
use Prim.Native.Nat.{ℕ, ◌*◌, ◌^◌, ◌≤◌, ◌<◌}
use native.Mathlib.Nat.{mul-one, mul_assoc, mul_comm, mul_left_comm, mul-pos, ne_of_gt}
use mathlib.Core.Bool.{true, false, not, cond, true≢false}
use lib.IntN.{pos}
use lib.Dec.{T, eqb, eqb→eq, not_T, le→leb}
use lib.Ieee.{Float, nan, inf, fin, Format, prec, up, down, round, div, of_int, in_float as float_holds}
use lib.Ieee.Bits.{cond_no}
use lib.Ieee.Fits.{down_pos}
use lib.Ieee.Exact.{HasValue}
use lib.Ieee.Back.{round_whole}
use lib.Ieee.Scale.{round_same}
use lib.Ieee.Positive.{first_pos}

cross : (x y de dd a b : ℕ) → x * 1 ≡ a * de → y * 1 ≡ b * dd → x * dd * b ≡ a * (y * de)
cross x y de dd a b h k =
    let h' : x ≡ a * de = sym (mul-one x) ∙ h in
    let k' : y ≡ b * dd = sym (mul-one y) ∙ k in
    rw (h', k') (simp (mul_assoc, mul_comm, mul_left_comm))

div_is : (f : Format) (x y : Float) (a b : ℕ) → HasValue x false a 1 → HasValue y false b 1 → 0 < b → div f x y ≡ round f false a b
unfolding div
div_is f nan y a b h k B = absurd h
div_is f (inf s) y a b h k B = absurd h
div_is f (fin true m e) y a b h k B = absurd (true≢false h.0)
div_is f (fin false m e) nan a b h k B = absurd k
div_is f (fin false m e) (inf t) a b h k B = absurd k
div_is f (fin false m e) (fin true n d) a b h k B = absurd (true≢false k.0)
div_is f (fin false m e) (fin false n d) a b h k B =
    let N : 0 < n * up d = first_pos (n * up d) 1 (subst (λ (z : ℕ). 0 < z) (sym k.1) (mul-pos B (down_pos d))) in
    let n≠ : T (not (eqb n 0)) = not_T (eqb n 0) (λ (u : T (eqb n 0)). ne_of_gt (first_pos n (up d) N) (eqb→eq n 0 u)) in
    cond_no (eqb n 0) (cond (eqb m 0) nan (inf false)) (round f false (m * up e * down d) (n * up d * down e)) n≠
    ∙ round_same f false (m * up e * down d) (n * up d * down e) a b (mul-pos N (down_pos e)) B (cross (m * up e) (n * up d) (down e) (down d) a b h.1 k.1)

pub quotient : (f : Format) (p q : ℕ) → p ≤ 2 ^ prec f → 0 < q → q ≤ 2 ^ prec f → div f (of_int f (pos p)) (of_int f (pos q)) ≡ round f false p q
unfolding of_int
quotient f p q P Q H = div_is f (round f false p 1) (round f false q 1) p q (round_whole f false p P) (round_whole f false q H) Q

-- the cast asks nothing more
pub in_float : (f : Format) (p : ℕ) → p ≤ 2 ^ prec f → T (float_holds f (pos p))
unfolding float_holds
in_float f p h = le→leb p (2 ^ prec f) h
