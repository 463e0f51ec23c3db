-- A candidate's run.
use Rattle.std.specs.Prelude.{ℕ, ◌+◌, Bool, false, cond, [], ◌∷◌}
use Rattle.keylaws.specs.Rules.{Rules, Word, accepts}

-- the place of the first refused event within the slot, from 1, and its refusal (0 and 0 where none is refused); whether all readings hold at the end
pub record Outcome : Type 0 where
  pub place : ℕ
  pub refusal : ℕ
  pub holds : Bool

abbrev pub stopped : ℕ → ℕ → Outcome
stopped i r = record { place = i; refusal = r; holds = false }

abbrev pub ended : Bool → Outcome
ended b = record { place = 0; refusal = 0; holds = b }

-- "it stops at the first refused event and tells its place and refusal, or says whether all readings hold." From s, where the next event is the i-th.
unfoldable pub run_from : (R : Rules) → R.Situation → ℕ → Word → Outcome
run_from R s i [] = ended (R.holds s)
run_from R s i (p ∷ w) = cond (accepts R s p) (run_from R (R.next s p) (i + 1) w) (stopped i (R.refusal s p))

abbrev pub run : (R : Rules) → R.Situation → Word → Outcome
run R start w = run_from R start 1 w
