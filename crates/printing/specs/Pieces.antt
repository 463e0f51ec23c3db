-- The text is handed out in pieces, each by a call with lent room. The pieces joined are `printed` (proofs/PiecesJoined.antt).
use Rattle.std.specs.Prelude.{ℕ, ◌+◌, ◌-◌, ◌/◌, ◌%◌, ◌^◌, ◌≤◌, min, Bool, true, false, ltb, Option, None, Some, List, [], ◌∷◌, ◌++◌, length, take, nat_eq, nat_le, slice_index_or, if◌then◌else◌}
use mathlib.Core.List.{flatten}
use Rattle.words.specs.Words.{◌or◌}
use Rattle.keylaws.specs.Rules.{Word}
use Rattle.keylaws.specs.Slots.{slot_of}
use Rattle.keylaws.specs.Continuation.{from_start, is_continuation, answers_after}
use Rattle.keytext.specs.Text.{lines, total, refused}
use Rattle.paper.specs.Read.{read_of}
use Rattle.keys.specs.Key.{question_in, rules}
use Rattle.printing.specs.declared.Position.{Position}

-- ---- where the printing is: after which slot it goes on, how many sequences have their lines, and whether the text has ended
pub record Progress : Type 0 where
  pub after : List ℕ
  pub total : ℕ
  pub ended : Bool

abbrev pub start : Progress
start = record { after = from_start; total = 0; ended = false }

abbrev pub the_end : Progress
the_end = record { after = from_start; total = 0; ended = true }

-- in the code: none once the text has ended
abbrev pub progress_of : Option Position → Progress
progress_of None = the_end
progress_of (Some p) = record { after = p.after; total = p.total; ended = false }

-- the refusal of the question; of a progress whose place to continue after is malformed: 22
abbrev pub refusal : List ℕ → Progress → ℕ
refusal bytes progress =
    if nat_eq (read_of bytes).refusal 0 then
    (if is_continuation (rules (question_in bytes)).events (question_in bytes).length progress.after then 0 else 22)
    else (read_of bytes).refusal

-- the sequences that have no line yet
abbrev pub left : List ℕ → Progress → List Word
left bytes progress = answers_after (rules (question_in bytes)) (question_in bytes).length (question_in bytes).situation progress.after

-- the count is kept in 64 bits
abbrev pub counted : Progress → ℕ → ℕ
counted progress n = (progress.total + n) % 2 ^ 64

-- ---- a piece, and where the printing is after it
pub record Given : Type 0 where
  pub text : List ℕ
  pub next : Progress

-- the lines that are left, and the total
abbrev pub last_piece : Progress → List Word → Given
last_piece progress ws = record { text = lines ws ++ total (counted progress (length ws)); next = the_end }

-- so many lines; the next piece goes on after the last of them
abbrev pub lines_piece : Progress → ℕ → List Word → Given
lines_piece progress n ws =
    record { text = lines (take n ws); next = record { after = slot_of (slice_index_or ws (n - 1) []); total = counted progress n; ended = false } }

-- the longest line has 20 bytes and the total 27: as many lines as have room before a total, 4,096 at most
abbrev pub fitting : ℕ → ℕ
fitting size = min ((size - 27) / 20) 4096

-- in a room of so many bytes: nothing once the text has ended, or where a line and the total might not have room
unfoldable pub piece : List ℕ → Progress → ℕ → Given
piece bytes progress size =
    let n = fitting size in
    let ws = left bytes progress in
    if progress.ended or ltb size 47 then record { text = []; next = progress }
    else (if nat_eq (refusal bytes progress) 0 then (if nat_le (length ws) n then last_piece progress ws else lines_piece progress n ws)
    else record { text = refused (refusal bytes progress); next = the_end })

-- ---- pieces in rooms of these lengths, one after the other
unfoldable pub pieces : List ℕ → Progress → List ℕ → List (List ℕ)
pieces bytes progress [] = []
pieces bytes progress (size ∷ sizes) = (piece bytes progress size).text ∷ pieces bytes (piece bytes progress size).next sizes

abbrev pub joined : List (List ℕ) → List ℕ
joined = flatten

-- where the printing is after them
unfoldable pub reached : List ℕ → Progress → List ℕ → Progress
reached bytes progress [] = progress
reached bytes progress (size ∷ sizes) = reached bytes (piece bytes progress size).next sizes

-- each room has 47 bytes or more
abbrev pub Rooms : List ℕ → Type 0
Rooms [] = Unit {0}
Rooms (size ∷ sizes) = (47 ≤ size) × Rooms sizes

-- ---- the text that is left
unfoldable pub rest : List ℕ → Progress → List ℕ
rest bytes progress =
    if progress.ended then []
    else (if nat_eq (refusal bytes progress) 0 then (last_piece progress (left bytes progress)).text else refused (refusal bytes progress))
