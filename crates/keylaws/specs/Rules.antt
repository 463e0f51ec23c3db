-- All that a key knows of the rules.
use Rattle.std.specs.Prelude.{ℕ, Bool, List, eqb}

-- the situations; how many events are permitted; the refusal of the event at a place, 0 if it is accepted, and the situation that it leads to; whether all readings hold
pub record Rules : Type 1 where
  pub Situation : Type 0
  pub events : ℕ
  pub refusal : Situation → ℕ → ℕ
  pub next : Situation → ℕ → Situation
  pub holds : Situation → Bool

abbrev pub accepts : (R : Rules) → R.Situation → ℕ → Bool
accepts R s p = eqb (R.refusal s p) 0

-- a sequence of events, each by its place among the permitted ones, counted from 1
abbrev pub Word : Type 0
Word = List ℕ
