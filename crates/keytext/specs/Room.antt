-- Text in lent room.
use Rattle.std.specs.Prelude.{ℕ, ◌+◌, cond, List, ◌++◌, length, take, drop, leb}

-- the room with a text from a place on: the bytes before and after it keep their values
unfoldable pub over : ℕ → List ℕ → List ℕ → List ℕ
over at text room = take at room ++ (text ++ drop (at + length text) room)

-- what a call leaves in the room that it is lent: the text at the front, or the room as it was, where it has fewer bytes than needed
unfoldable pub written : ℕ → List ℕ → List ℕ → List ℕ
written needed text room = cond (leb needed (length room)) (over 0 text room) room

-- what it answers: the length of the text, or 0
unfoldable pub length_written : ℕ → List ℕ → List ℕ → ℕ
length_written needed text room = cond (leb needed (length room)) (length text) 0
