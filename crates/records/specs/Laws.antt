-- What is proved of the letters of a plan: each law as a statement, proved under the same name in proofs/Editions. (02, Req 05)
use Rattle.std.specs.Prelude.{ℕ, ◌≡◌, true, false, List, [], ◌∷◌, if◌then◌else◌}
use Rattle.block.specs.declared.line.Plan.{Plan}
use Rattle.forms.specs.Compose.{stands}
use Rattle.forms.specs.Whole.{refused, accepted, whole}
use Rattle.records.specs.Plan.{LB, LC, plan}
use Rattle.records.specs.Question.{question}

-- "LB means 2024": L, B, n, b
abbrev pub LBMeans2024 : Type 0
LBMeans2024 = (n b : ℕ) → whole plan (76 ∷ 66 ∷ n ∷ b ∷ []) ≡ accepted (record { sections = n; frontier = b; rules2012 = false })

-- "Record LC is LB with one byte more, always 1, for the 2012 rules": L, C, n, b, 1
abbrev pub LCMeans2012 : Type 0
LCMeans2012 = (n b : ℕ) → whole plan (76 ∷ 67 ∷ n ∷ b ∷ 1 ∷ []) ≡ accepted (record { sections = n; frontier = b; rules2012 = true })

-- "20 for another last byte in LC": a plan by itself, and a question, whatever follows
abbrev pub OtherLastByte : Type 0
OtherLastByte =
    (n b last : ℕ) → (last ≡ 1 → ⊥) →
    (whole plan (76 ∷ 67 ∷ n ∷ b ∷ last ∷ []) ≡ refused) × ((rest : List ℕ) → whole question (76 ∷ 67 ∷ n ∷ b ∷ last ∷ rest) ≡ refused)

-- the edition is read off the letters: a plan of 2024 begins with LB, one of 2012 with LC
abbrev pub EditionByLetters : Type 0
EditionByLetters = (bytes : List ℕ) (p : Plan) → whole plan bytes ≡ accepted p → stands (if p.rules2012 then LC else LB) bytes ≡ true
