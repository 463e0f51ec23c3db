-- The key of a question, over the real rules.
use Rattle.std.specs.Prelude.{ℕ, ◌≤◌, ◌≡◌, List, length as size}
use Rattle.keylaws.specs.Rules.{Rules, Word}
use Rattle.keylaws.specs.Key.{answers}
use Rattle.rules.specs.RulesOf.{rules_of}
use Rattle.paper.specs.Question.{Question}
use Rattle.paper.specs.Read.{read_of}

-- bytes that are accepted, and the question that bytes are read as
abbrev pub Accepted : List ℕ → Type 0
Accepted bytes = (read_of bytes).refusal ≡ 0

abbrev pub question_in : List ℕ → Question
question_in bytes = (read_of bytes).question

-- EV up to 12, RD up to 6, LN up to 5: so it is of every accepted question
abbrev pub Bounded : Question → Type 0
Bounded q = (size q.events ≤ 12) × (size q.readings ≤ 6) × (q.length ≤ 5)

abbrev pub rules : Question → Rules
rules q = rules_of q.plan q.events q.readings

-- every sequence of permitted events, up to the question's length, in which each event is accepted in its turn and every reading holds at the end
abbrev pub key_of : Question → List Word
key_of q = answers (rules q) q.length q.situation
