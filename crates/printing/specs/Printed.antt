-- The whole text that the key program prints for the bytes on its standard input.
use Rattle.std.specs.Prelude.{◌≡◌, ℕ, List, ◌++◌, length, take, ◌==◌, if◌then◌else◌}
use Rattle.keytext.specs.Text.{lines, total, refused}
use Rattle.paper.specs.Question.{Question}
use Rattle.paper.specs.Read.{read_of}
use Rattle.keys.specs.Key.{key_of}

-- "The key program reads a question from standard input and prints one line per sequence: places separated by one space, "-" for the empty one; then "total" and the count."
abbrev pub key_text : Question → List ℕ
key_text q = lines (key_of q) ++ total (length (key_of q))

-- "A refusal prints "refused" and its number only."
unfoldable pub printed : List ℕ → List ℕ
printed bytes = if (read_of bytes).refusal == 0 then key_text (read_of bytes).question else refused (read_of bytes).refusal

-- so many bytes of any input have the text of all of it
abbrev pub Enough : ℕ → Type 0
Enough n = (bytes : List ℕ) → printed (take n bytes) ≡ printed bytes
