-- A row of the document's table: the refusals, numbered tests in the order in which they run, and then the effect.
use Rattle.std.specs.Prelude.{ℕ, Bool, if◌then◌else◌}
use Rattle.rulebook.specs.Situation.{Situation}

infix 30 ◌when◌
infix 30 enough_when◌
infixr 20 ◌┃◌
infix 25 ⟶◌
pub data Check : Type 0 where
  ◌when◌ : ℕ → Bool → Check
  enough_when◌ : Bool → Check

pub data Row : Type 0 where
  ⟶◌ : Situation → Row
  ◌┃◌ : Check → Row → Row

-- "Checks run in the order written; the first that fails gives the refusal." 0 is accepted
abbrev pub refusal : Row → ℕ
refusal (⟶ y) = 0
refusal ((n when failed) ┃ rest) = if failed then n else refusal rest
refusal ((enough_when v) ┃ rest) = if v then 0 else refusal rest

abbrev pub effect : Row → Situation
effect (⟶ y) = y
effect (check ┃ rest) = effect rest
