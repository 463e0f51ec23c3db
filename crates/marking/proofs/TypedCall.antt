-- What the definitions say of the byte-level call, by the tests that it makes. Assumes nothing.
use Rattle.std.specs.Prelude.{if◌then◌else◌}
use mathlib.Core.Path.{◌≡◌, sym, ap, ◌∙◌, subst}
use Prim.Native.Nat.{ℕ, zero, suc, ◌+◌, ◌*◌, ◌^◌, ◌≤◌, ◌<◌}
use native.Mathlib.Omega.{arith}
use mathlib.Core.Bool.{Bool, true, false, not, ◌&&◌, cond}
use mathlib.Core.List.{List, ◌++◌}
use lib.Dec.{T, leb, ltb, eqb, nltb→le}
use lib.ListN.{length, drop}
use borrow.Author.Tests.{le-ltb}
use lib.Ieee.{Float, inf, Format, binary32, of_bits, prec, emax, low, odd, units, round, is_nan}
use lib.Ieee.Fits.{round_is}
use Rattle.numeric.specs.Exact.{in_range}
use Rattle.numeric.specs.Kinds.{kind_number}
use Rattle.numeric.specs.Number.{Line}
use Rattle.numeric.specs.Told.{line_told, numbers_of, answer_to}
use Rattle.numeric.specs.declared.Line as code
use Rattle.numeric.specs.declared.question.Numbers.{Numbers}
use Rattle.numeric.specs.declared.question.Question.{Question}
use Rattle.marking.specs.Sheet.{Marked, sheet_line, marked}
use Rattle.marking.specs.declared.Answer.{Answer}
use Rattle.marking.proofs.Lines.{marked_line}
use Rattle.marking.specs.Typed.{answer_of, pattern_of, line_bytes, typed_refusal, typed_line, room_after}

-- ---- a rounded fraction is no NaN
odd_no_nan : (d : ℕ) (s : Bool) (q k l : ℕ) → T (not (is_nan (odd d s q k l)))
unfolding odd is_nan
odd_no_nan d s zero k l = tt
odd_no_nan d s (suc q) k l = tt

units_no_nan : (f : Format) (s : Bool) (q k : ℕ) → T (not (is_nan (units f s q k)))
unfolding units is_nan
units_no_nan f s q k = go (ltb (q * 2 ^ k) (2 ^ (low f + suc (emax f))))
  where
    go : (b : Bool) → T (not (is_nan (cond b (odd (suc (prec f)) s q k (low f)) (inf s))))
    go true = odd_no_nan (suc (prec f)) s q k (low f)
    go false = tt

pub round_no_nan : (f : Format) (s : Bool) (num den : ℕ) → T (not (is_nan (round f s num den)))
round_no_nan f s num den = subst (λ (z : Float). T (not (is_nan z))) (sym (round_is f s num den)) (units_no_nan f s _ _)

-- ---- the refusal and the room
module _ (kind amount speed tolerance unit : ℕ) (room : List ℕ) where
  abbrev outside : Bool
  outside = not (in_range kind amount speed tolerance && leb unit 2)

  abbrev short : Bool
  short = ltb (length room) 13

  pub refusal_by : (b s : Bool) → outside ≡ b → short ≡ s → (if b then 23 else if s then 24 else 0) ≡ typed_refusal kind amount speed tolerance unit room
  refusal_by b s e f = sym (ap (λ (x : Bool). if x then 23 else if short then 24 else 0) e ∙ ap (λ (x : Bool). if b then 23 else if x then 24 else 0) f)

  -- an answer that is not refused is in range, and its line has room
  pub accepted_is : typed_refusal kind amount speed tolerance unit room ≡ 0 → T (in_range kind amount speed tolerance) × (13 ≤ length room)
  accepted_is h =
      let p = go (in_range kind amount speed tolerance) (leb unit 2) short h in
      (p.0, nltb→le (length room) 13 p.1)
    where
      never : (n : ℕ) → n ≡ 0 → 0 < n → ⊥
      never n e h = omega arith

      go : (b u s : Bool) → ◌≡◌ {A = ℕ} (if not (b && u) then 23 else if s then 24 else 0) 0 → T b × T (not s)
      go true true false h = (tt, tt)
      go true true true h = absurd (never 24 h (omega arith))
      go true false s h = absurd (never 23 h (omega arith))
      go false u s h = absurd (never 23 h (omega arith))

  pub room_by : (pattern : ℕ) (b : Bool) → eqb (typed_refusal kind amount speed tolerance unit room) 0 ≡ b
      → room_after kind amount speed tolerance unit pattern room ≡ (if b then line_bytes (pattern_of unit pattern) (typed_line kind amount speed tolerance unit pattern) ++ drop 13 room else room)
  room_by pattern b e = ap (λ (x : Bool). if x then line_bytes (pattern_of unit pattern) (typed_line kind amount speed tolerance unit pattern) ++ drop 13 room else room) e

-- ---- what an accepted call writes: the bytes of the line, and after them what was there
pub written : (n : Numbers) (q : Question) (unit pattern given : ℕ) (a : Answer) (l : code.Line) (bytes room after : List ℕ)
    → numbers_of q ≡ n
    → leb unit 2 ≡ true
    → a ≡ answer_of unit (of_bits binary32 pattern)
    → 13 ≤ length room
    → line_told l ≡ sheet_line (kind_number q.kind) (answer_to q) q.tolerance a
    → given ≡ pattern_of unit pattern
    → bytes ≡ line_bytes given (line_told l)
    → after ≡ bytes ++ drop (length bytes) room
    → after ≡ room_after n.kind n.amount n.speed n.tolerance unit pattern room
written n q unit pattern given a l bytes room after same known answered fits told kept spelled copied =
    let k = kind_number q.kind in
    let outside_not : not (in_range k q.amount q.speed q.tolerance && leb unit 2) ≡ false =
    ap (λ (b : Bool). not (b && leb unit 2)) q.ranged ∙ ap not known in
    let accepted : typed_refusal k q.amount q.speed q.tolerance unit room ≡ 0 =
    sym (refusal_by k q.amount q.speed q.tolerance unit room false false outside_not (le-ltb (length room) 13 fits)) in
    let line : line_told l ≡ typed_line k q.amount q.speed q.tolerance unit pattern =
    told
    ∙ sym (ap (λ (m : Marked). m.line) (marked_line k q.amount q.speed q.tolerance a (subst T (sym q.ranged) tt)))
    ∙ ap (λ (z : Answer). (marked k q.amount q.speed q.tolerance z).line) answered in
    let all : after ≡ line_bytes (pattern_of unit pattern) (typed_line k q.amount q.speed q.tolerance unit pattern) ++ drop 13 room =
    copied
    ∙ ap (λ (x : List ℕ). x ++ drop (length x) room) (spelled ∙ ap (λ (z : ℕ). line_bytes z (line_told l)) kept ∙ ap (λ (z : Line). line_bytes (pattern_of unit pattern) z) line) in
    (all ∙ sym (room_by k q.amount q.speed q.tolerance unit room pattern true (ap (λ (m : ℕ). eqb m 0) accepted)))
    ∙ ap (λ (m : Numbers). room_after m.kind m.amount m.speed m.tolerance unit pattern room) same
