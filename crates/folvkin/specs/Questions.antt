-- The calls on questions: what they tell is packed into one number.
use Rattle.std.specs.Prelude.{ℕ, ◌+◌, ◌*◌, List}
use Rattle.words.specs.Words.{flag}
use Rattle.paper.specs.Read.{read_of}
use Rattle.keys.specs.Calls.{Fetch, fetched, Ran, ran}

-- `refusal + 2^8 more + 2^16 count`
abbrev pub packed_part : Fetch → ℕ
packed_part f = f.refusal + 256 * flag f.part.more + 65536 * f.part.count

-- `refusal + 2^8 place + 2^16 event's refusal + 2^24 holds + 2^32 name`
abbrev pub packed_run : Ran → ℕ
packed_run r = r.refusal + 256 * r.place + 65536 * r.event_refusal + 16777216 * flag r.holds + 4294967296 * r.name

abbrev pub question_refusal : List ℕ → ℕ
question_refusal bytes = (read_of bytes).refusal

abbrev pub key_packed : List ℕ → List ℕ → List ℕ → ℕ
key_packed bytes after room = packed_part (fetched (read_of bytes) after room)

abbrev pub key_room : List ℕ → List ℕ → List ℕ → List ℕ
key_room bytes after room = (fetched (read_of bytes) after room).part.room

abbrev pub run_packed : List ℕ → List ℕ → ℕ
run_packed bytes slot = packed_run (ran (read_of bytes) slot)
