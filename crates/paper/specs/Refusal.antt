-- The refusal of a question. "Order: 20, 1, 2, 3, 4, 21": "20 .. an EV or RD count out of range", "1 plan; 2 situation not sound", and then what
-- its lists give. 0 is accepted.
use Rattle.std.specs.Prelude.{ℕ, Bool, length, leb}
use Rattle.words.specs.Words.{◌and◌}
use Rattle.rulebook.specs.Judged.{judged}
use Rattle.lists.specs.Refusal.{◌unless◌, ◌or_else◌, lists_refusal}
use Rattle.paper.specs.Question.{Question}

-- "EV, count 1..12"; "RD, count 0..6"
unfoldable pub counts_in_range : ℕ → ℕ → Bool
counts_in_range events readings = leb 1 events and leb events 12 and leb readings 6

unfoldable pub refusal_of : Question → ℕ
refusal_of q =
    20 unless counts_in_range (length q.events) (length q.readings)
    or_else judged q.plan q.situation
    or_else lists_refusal q.plan q.events q.readings q.length
