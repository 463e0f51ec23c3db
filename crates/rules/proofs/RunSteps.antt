-- Nothing here has to be believed. A run place by place, as the code goes: over any rules, and what it names over a question's.
use Rattle.std.specs.Prelude.{if◌then◌else◌}
use Prim.Native.Nat.{ℕ, ◌+◌, ◌≤◌, ◌<◌}
use mathlib.Core.Path.{◌≡◌, refl}
use mathlib.Core.Bool.{cond}
use mathlib.Core.List.{List}
use native.Mathlib.Numerals.{add-one}
use lib.ListN.{length, drop, get_or, drop_of_length-le}
use lib.Seq.{drop-cons}
use lib.Dec.{eqb}
use Rattle.block.specs.declared.line.Plan.{Plan}
use Rattle.block.specs.declared.event.Event.{Event}
use Rattle.rulebook.specs.Situation.{Kept}
use Rattle.rulebook.specs.Names.{name}
use Rattle.records.specs.Lists.{event_at}
use Rattle.rules.specs.RulesOf.{tried, name_told}
use Rattle.keylaws.specs.Rules.{Rules, Word, accepts}
use Rattle.keylaws.specs.Run.{stopped, ended, run_from}

module _ (R : Rules) (s : R.Situation) (w : Word) (i : ℕ) where
  pub run_end : length w ≤ i → run_from R s (i + 1) (drop i w) ≡ ended (R.holds s)
  unfolding run_from
  run_end h = rw (drop_of_length-le w h) refl

  pub run_step : i < length w → run_from R s (i + 1) (drop i w) ≡ cond (accepts R s (get_or w i 0)) (run_from R (R.next s (get_or w i 0)) (i + 1 + 1) (drop (i + 1) w)) (stopped (i + 1) (R.refusal s (get_or w i 0)))
  unfolding run_from
  run_step h = rw (drop-cons w i 0 h, add-one i) refl

-- and what the refusal names at which it stops
module _ (p : Plan) (events : List Event) (x : Kept) (w : Word) (i : ℕ) where
  pub name_end : length w ≤ i → name_told p events x (drop i w) ≡ 0
  unfolding name_told
  name_end h = rw (drop_of_length-le w h) refl

  pub name_step : i < length w
      → name_told p events x (drop i w)
      ≡ (if eqb (tried p events x (get_or w i 0)).refusal 0 then name_told p events (tried p events x (get_or w i 0)).next (drop (i + 1) w) else
      name p x (event_at events (get_or w i 0)) (tried p events x (get_or w i 0)).refusal)
  unfolding name_told
  name_step h = rw (drop-cons w i 0 h, add-one i) refl
