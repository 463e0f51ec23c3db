-- "Writing an accepted question into lent room (the call returns its length, later bytes keep their values; any other question gets its refusal)"
use Rattle.std.specs.Prelude.{ℕ, List, length, eqb, leb, if◌then◌else◌}
use Rattle.forms.specs.Form.{laid}
use Rattle.lists.specs.Refusal.{◌unless◌, ◌or_else◌}
use Rattle.paper.specs.Question.{Question, written}
use Rattle.paper.specs.Refusal.{refusal_of}

-- how many bytes were written, or the refusal and 0
pub record Written : Type 0 where
  pub refusal : ℕ
  pub length : ℕ

-- "24 room .. too short for a question being written"
unfoldable pub write_refusal : Question → List ℕ → ℕ
write_refusal q room = refusal_of q or_else 24 unless leb (length (written q)) (length room)

unfoldable pub written_of : Question → List ℕ → Written
written_of q room = record {
  refusal = write_refusal q room;
  length = if eqb (write_refusal q room) 0 then length (written q) else 0;
}

-- "lent memory keeps its values" where the question is refused
unfoldable pub room_after : Question → List ℕ → List ℕ
room_after q room = if eqb (write_refusal q room) 0 then laid (written q) room else room
