-- What the key program prints.
use Rattle.std.specs.Prelude.{ℕ, zero, suc, ◌*◌, ◌/◌, length, take, drop}
use mathlib.Core.List.{List, [], ◌∷◌, ◌++◌, map, flatten}
use Rattle.keylaws.specs.Rules.{Word}
use Rattle.keylaws.specs.Slots.{word_of}
use Rattle.keytext.specs.Decimal.{decimal}

abbrev pub newline : ℕ
newline = 10

abbrev pub space : ℕ
space = 32

abbrev pub hyphen : ℕ
hyphen = 45

-- one space before each place
unfoldable pub spaced : Word → List ℕ
spaced [] = []
spaced (p ∷ w) = space ∷ (decimal p ++ spaced w)

-- the line of a sequence: "places separated by one space, "-" for the empty one"
unfoldable pub line : Word → List ℕ
line [] = hyphen ∷ newline ∷ []
line (p ∷ w) = decimal p ++ (spaced w ++ (newline ∷ []))

-- "one line per sequence"
unfoldable pub lines : List Word → List ℕ
lines ws = flatten (map line ws)

-- the words of so many slots, six bytes each; of a length above 5 all five places are read
unfoldable pub words_in : ℕ → List ℕ → List Word
words_in zero x = []
words_in (suc k) x = word_of (take 6 x) ∷ words_in k (drop 6 x)

-- the words of slots, one after the other; fewer than six bytes at the end are no slot
unfoldable pub words : List ℕ → List Word
words x = words_in (length x / 6) x

-- a label, one space, a number and the end of the line
unfoldable pub labelled : List ℕ → ℕ → List ℕ
labelled label n = label ++ (space ∷ (decimal n ++ (newline ∷ [])))

-- "total"
abbrev pub total_label : List ℕ
total_label = 116 ∷ 111 ∷ 116 ∷ 97 ∷ 108 ∷ []

-- "refused"
abbrev pub refused_label : List ℕ
refused_label = 114 ∷ 101 ∷ 102 ∷ 117 ∷ 115 ∷ 101 ∷ 100 ∷ []

-- "then "total" and the count"
abbrev pub total : ℕ → List ℕ
total count = labelled total_label count

-- "A refusal prints "refused" and its number only."
abbrev pub refused : ℕ → List ℕ
refused number = labelled refused_label number

-- ---- the longest texts, which a room is to have the bytes of
-- for each slot five places of three digits, with what follows each
abbrev pub longest_lines : List ℕ → ℕ
longest_lines slots = 20 * (length slots / 6)

-- twenty digits
abbrev pub longest_total : ℕ
longest_total = 27

-- three digits
abbrev pub longest_refused : ℕ
longest_refused = 12
