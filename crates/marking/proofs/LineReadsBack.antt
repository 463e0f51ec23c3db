-- A sheet line read back from its bytes gives the verdict and the error that were written, the pattern that was typed, and the model value's pattern. Assumes nothing.
use Rattle.std.specs.Prelude.{if◌then◌else◌}
use mathlib.Core.Path.{◌≡◌, refl, sym, ap, ◌∙◌, subst}
use mathlib.Core.List.{List, ◌++◌}
use Prim.Native.Nat.{ℕ, suc, ◌+◌, ◌-◌, ◌*◌, ◌/◌, ◌%◌, ◌^◌, ◌≤◌, ◌<◌, min}
use native.Mathlib.Nat.{le_trans, le_of_eq, div-div-eq-div-mul}
use native.Mathlib.Omega.{arith}
use mathlib.Core.Bool.{Bool, true, false}
use lib.Dec.{T, leb, eqb}
use lib.ListN.{drop}
use lib.IntN.{ℤ, pos, negsuc, nat_abs}
use lib.Ieee.{binary32, of_bits, to_bits, fits}
use lib.Ieee.Bits.{to_bits-lt}
use borrow.Author.Tests.{lt-ltb, le-ltb}
use Rattle.numeric.specs.Exact.{Fraction, Value, in_range, exact_answer, exact_value, distance, below, signed_error}
use Rattle.marking.specs.Sheet.{given_of, verdict_of, sheet_line, refused, marked, Marked}
use Rattle.marking.specs.Typed.{answer_of, pattern_of, word, twos, line_bytes, typed_refusal, typed_line, room_after, word_at, signed_word, model_read, verdict_read, error_read}
use Rattle.marking.specs.declared.Answer.{Answer}
use Rattle.numeric.specs.Number.{Line}
use Rattle.marking.proofs.Lines.{with_line, marked_by}
use Rattle.marking.proofs.ErrorIsTheCut.{size_is}
use Rattle.marking.proofs.TypedCall.{room_by}

-- four bytes hold a number below 2 ^ 32
pub word_back : (w : ℕ) → w < 2 ^ 32 → word_at (word w) 0 ≡ w
word_back w h = four w (w / 256) (w / 65536) (w / 16777216) refl (div-div-eq-div-mul w 256 256) (div-div-eq-div-mul w 65536 256) h
  where
    top : (c : ℕ) → c < 256 → c % 256 ≡ c
    top c h = omega arith

    four : (w a b c : ℕ) → w / 256 ≡ a → a / 256 ≡ b → b / 256 ≡ c → w < 2 ^ 32 → w % 256 + 256 * (a % 256) + 65536 * (b % 256) + 16777216 * (c % 256) ≡ w
    four w a b c e f g h =
        let la : a < 2 ^ 24 = omega arith in
        let lb : b < 2 ^ 16 = omega arith in
        let lc : c < 256 = omega arith in
        let x : w ≡ w % 256 + 256 * a = omega arith in
        let y : a ≡ a % 256 + 256 * b = omega arith in
        let z : b ≡ b % 256 + 256 * c = omega arith in
        last w (w % 256) a (a % 256) b (b % 256) c (c % 256) x y z (top c lc)
      where
        last : (w w' a a' b b' c c' : ℕ) → w ≡ w' + 256 * a → a ≡ a' + 256 * b → b ≡ b' + 256 * c → c' ≡ c → w' + 256 * a' + 65536 * b' + 16777216 * c' ≡ w
        last w w' a a' b b' c c' x y z k = omega arith

twos_lt : (e : ℤ) → nat_abs e ≤ 1000000 → twos e < 2 ^ 32
twos_lt (pos n) h = omega arith
twos_lt (negsuc n) h = omega arith

twos_back : (e : ℤ) → nat_abs e ≤ 1000000 → signed_word (twos e) ≡ e
twos_back (pos n) h = ap (λ (b : Bool). if b then pos n else negsuc (2 ^ 32 - suc n)) (lt-ltb n (2 ^ 31) (omega arith))
twos_back (negsuc n) h =
    ap (λ (b : Bool). if b then pos (2 ^ 32 - suc n) else negsuc (2 ^ 32 - suc (2 ^ 32 - suc n))) (le-ltb (2 ^ 32 - suc n) (2 ^ 31) (omega arith)) ∙ ap negsuc (omega arith)

-- a line whose error is held, with whatever bytes after it
reads_back : (l : Line) (pattern : ℕ) (later : List ℕ) → nat_abs l.error ≤ 1000000
    → (verdict_read (line_bytes pattern l ++ later) ≡ l.verdict) × (error_read (line_bytes pattern l ++ later) ≡ l.error)
reads_back l pattern later h = (refl, ap signed_word (word_back (twos l.error) (twos_lt l.error h)) ∙ twos_back l.error h)

-- the error of every line that marking gives is held
marked_held : (kind amount speed tolerance : ℕ) (a : Answer) → nat_abs (marked kind amount speed tolerance a).line.error ≤ 1000000
marked_held kind amount speed tolerance a = subst (λ (m : Marked). nat_abs m.line.error ≤ 1000000) (sym (marked_by kind amount speed tolerance a (in_range kind amount speed tolerance) refl)) (by_range (in_range kind amount speed tolerance))
  where
    most : (n : ℕ) → min n 1000000 ≤ 1000000
    most n = omega arith

    by_verdict : (t : Fraction) (v : Value) (b : Bool) → nat_abs (if b then signed_error t v else pos 0) ≤ 1000000
    by_verdict t v true = le_trans (le_of_eq (size_is (below t v) (min (1000 * distance t v / (t.bottom * v.under)) 1000000))) (most (1000 * distance t v / (t.bottom * v.under)))
    by_verdict t v false = omega arith

    by_range : (b : Bool) → nat_abs (if b then with_line 0 (sheet_line kind (exact_answer kind amount speed) tolerance a) else refused 23).line.error ≤ 1000000
    by_range true = by_verdict (exact_answer kind amount speed) (exact_value (given_of a)) (leb (verdict_of kind (exact_answer kind amount speed) tolerance a) 1)
    by_range false = omega arith

pub line_reads_back : (kind amount speed tolerance : ℕ) (a : Answer) (pattern : ℕ) (later : List ℕ)
    → (verdict_read (line_bytes pattern (marked kind amount speed tolerance a).line ++ later) ≡ (marked kind amount speed tolerance a).line.verdict)
    × (error_read (line_bytes pattern (marked kind amount speed tolerance a).line ++ later) ≡ (marked kind amount speed tolerance a).line.error)
line_reads_back kind amount speed tolerance a pattern later = reads_back (marked kind amount speed tolerance a).line pattern later (marked_held kind amount speed tolerance a)

-- ---- of the room, after a call that was accepted
module _ (kind amount speed tolerance unit pattern : ℕ) (room : List ℕ) (accepted : typed_refusal kind amount speed tolerance unit room ≡ 0) where
  abbrev after : List ℕ
  after = room_after kind amount speed tolerance unit pattern room

  abbrev line : Line
  line = typed_line kind amount speed tolerance unit pattern

  written : after ≡ line_bytes (pattern_of unit pattern) line ++ drop 13 room
  written = room_by kind amount speed tolerance unit room pattern true (ap (λ (n : ℕ). eqb n 0) accepted)

  pub room_reads_back : (verdict_read after ≡ line.verdict) × (error_read after ≡ line.error)
  room_reads_back =
      let b = line_reads_back kind amount speed tolerance (answer_of unit (of_bits binary32 pattern)) (pattern_of unit pattern) (drop 13 room) in
      (ap verdict_read written ∙ b.0, ap error_read written ∙ b.1)

  pub pattern_reads_back : pattern_of unit pattern < 2 ^ 32 → word_at after 0 ≡ pattern_of unit pattern
  pattern_reads_back h = ap (λ (l : List ℕ). word_at l 0) written ∙ word_back (pattern_of unit pattern) h

  pub model_reads_back : T (fits binary32 line.model) → model_read after ≡ to_bits binary32 line.model
  model_reads_back f = ap model_read written ∙ word_back (to_bits binary32 line.model) (to_bits-lt binary32 line.model f)
