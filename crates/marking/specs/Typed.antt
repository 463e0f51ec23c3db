-- An answer as a unit byte and a typed pattern, and a sheet line as bytes. Definitions only.
use Rattle.std.specs.Prelude.{ℕ, suc, ◌+◌, ◌-◌, ◌*◌, ◌/◌, ◌%◌, ◌^◌, not, ◌&&◌, List, [], ◌∷◌, ◌++◌, leb, ltb, eqb, ℤ, pos, negsuc, length, drop, get_or, Float, if◌then◌else◌}
use Rattle.std.specs.Float.{binary32}
use Rattle.std.specs.Float.Ieee.{of_bits, to_bits}
use Rattle.numeric.specs.Exact.{in_range}
use Rattle.marking.specs.Sheet.{marked}
use Rattle.marking.specs.declared.Answer.{Answer}
use Rattle.marking.specs.declared.Answer.TheVariants.{Blank, Seconds, Metres}
use Rattle.numeric.specs.Number.{Line}

-- "blank, seconds with a float, or metres with a float (unit byte 0, 1, 2)"
abbrev pub answer_of : ℕ → Float → Answer
answer_of unit x = if eqb unit 0 then Blank else if eqb unit 1 then Seconds x else Metres x

-- "the number is given as typed (blank: +0)": its pattern, of a NaN too
abbrev pub pattern_of : ℕ → ℕ → ℕ
pattern_of unit pattern = if eqb unit 0 then 0 else pattern

-- four bytes, "low byte first"
abbrev pub word : ℕ → List ℕ
word w = w % 256 ∷ w / 256 % 256 ∷ w / 65536 % 256 ∷ w / 16777216 % 256 ∷ []

-- a signed number of 32 bits, in two's complement
abbrev pub twos : ℤ → ℕ
twos (pos n) = n
twos (negsuc n) = 2 ^ 32 - suc n

-- "4, 4, 1 and 4 bytes, low byte first"; the number's are those that were typed
abbrev pub line_bytes : ℕ → Line → List ℕ
line_bytes pattern l = word pattern ++ (word (to_bits binary32 l.model) ++ (l.verdict ∷ word (twos l.error)))

-- "23 numeric question or unit byte out of range"; then 24, room under 13 bytes
abbrev pub typed_refusal : ℕ → ℕ → ℕ → ℕ → ℕ → List ℕ → ℕ
typed_refusal kind amount speed tolerance unit room =
    if not (in_range kind amount speed tolerance && leb unit 2) then 23
    else if ltb (length room) 13 then 24
    else 0

-- the line of the answer that was typed
abbrev pub typed_line : ℕ → ℕ → ℕ → ℕ → ℕ → ℕ → Line
typed_line kind amount speed tolerance unit pattern = (marked kind amount speed tolerance (answer_of unit (of_bits binary32 pattern))).line

-- what the lent room then holds: the line's bytes, and "later bytes keep their values"; a refusal changes no byte
abbrev pub room_after : ℕ → ℕ → ℕ → ℕ → ℕ → ℕ → List ℕ → List ℕ
room_after kind amount speed tolerance unit pattern room =
    if eqb (typed_refusal kind amount speed tolerance unit room) 0
    then line_bytes (pattern_of unit pattern) (typed_line kind amount speed tolerance unit pattern) ++ drop 13 room
    else room

-- ---- a line read back from its bytes
abbrev pub word_at : List ℕ → ℕ → ℕ
word_at bytes k = get_or bytes k 0 + 256 * get_or bytes (k + 1) 0 + 65536 * get_or bytes (k + 2) 0 + 16777216 * get_or bytes (k + 3) 0

abbrev pub signed_word : ℕ → ℤ
signed_word w = if ltb w (2 ^ 31) then pos w else negsuc (2 ^ 32 - suc w)

abbrev pub model_read : List ℕ → ℕ
model_read bytes = word_at bytes 4

abbrev pub verdict_read : List ℕ → ℕ
verdict_read bytes = get_or bytes 8 0

abbrev pub error_read : List ℕ → ℤ
error_read bytes = signed_word (word_at bytes 9)
