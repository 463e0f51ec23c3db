-- An accepted row passed every check up to the first `enough`. Assumes nothing.
use mathlib.Core.Bool.{Bool, true, false, not}
use mathlib.Core.Path.{◌≡◌, refl}
use lib.Dec.{T, eqb, eqb→eq}
use Rattle.words.specs.Words.{◌and◌}
use Rattle.words.proofs.Tests.{not_equal, and_at}
use Rattle.rulebook.specs.Checks.{Row, ⟶◌, ◌┃◌, ◌when◌, enough_when◌, refusal}

abbrev pub numbered : Row → Bool
numbered (⟶ y) = true
numbered ((n when v) ┃ rest) = not (eqb n 0) and numbered rest
numbered ((enough_when v) ┃ rest) = true

abbrev pub Passed : Row → Type 0
Passed (⟶ y) = Unit
Passed ((n when v) ┃ rest) = (v ≡ false) × Passed rest
Passed ((enough_when v) ┃ rest) = Unit

pub passed : (r : Row) → T (numbered r) → T (eqb (refusal r) 0) → Passed r
passed (⟶ y) u a = tt
passed ((n when true) ┃ rest) u a = absurd (not_equal n 0 (and_at (not (eqb n 0)) (numbered rest) u).0 (eqb→eq n 0 a))
passed ((n when false) ┃ rest) u a = (refl, passed rest (and_at (not (eqb n 0)) (numbered rest) u).1 a)
passed ((enough_when v) ┃ rest) u a = tt
