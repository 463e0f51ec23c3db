-- (02, Req 01) What a run names: nothing where no event is refused, else what that refusal names, of the situation in which the event was tried. Assumes
-- nothing.
use Rattle.std.specs.Prelude.{if◌then◌else◌}
use Prim.Native.Nat.{ℕ, zero, suc, ◌+◌, ◌<◌}
use mathlib.Core.Path.{◌≡◌, refl}
use mathlib.Core.Bool.{Bool, true, false, cond}
use mathlib.Core.List.{List, [], ◌∷◌}
use lib.ListN.{length, take, get_or}
use lib.Dec.{eqb}
use borrow.Author.Tests.{eqb-false, eq-eqb, ne_eqb}
use native.Mathlib.Omega.{arith}
use Rattle.keylaws.specs.Rules.{Rules, Word}
use Rattle.keylaws.specs.Key.{reached, Accepted}
use Rattle.keylaws.specs.Run.{stopped, run_from}
use Rattle.block.specs.declared.line.Plan.{Plan}
use Rattle.block.specs.declared.event.Event.{Event}
use Rattle.block.specs.declared.reading.Reading.{Reading}
use Rattle.rulebook.specs.Situation.{Kept}
use Rattle.rulebook.specs.Names.{name}
use Rattle.records.specs.Lists.{event_at}
use Rattle.rules.specs.RulesOf.{rules_of, name_told}

module _ (p : Plan) (events : List Event) (readings : List Reading) where
  abbrev R : Rules
  R = rules_of p events readings

  pub unstopped : (w : Word) (x : Kept) (i : ℕ) → (run_from R x i w).refusal ≡ 0 → name_told p events x w ≡ 0
  unfolding run_from name_told
  unstopped [] x i e = refl
  unstopped (place ∷ w) x i e = go (eqb (R.refusal x place) 0) refl (λ f. unstopped w (R.next x place) (i + 1) f) e
    where
      go : (v : Bool) → eqb (R.refusal x place) 0 ≡ v → ((run_from R (R.next x place) (i + 1) w).refusal ≡ 0 → name_told p events (R.next x place) w ≡ 0)
          → (cond v (run_from R (R.next x place) (i + 1) w) (stopped i (R.refusal x place))).refusal ≡ 0
          → (if v then name_told p events (R.next x place) w else name p x (event_at events place) (R.refusal x place)) ≡ 0
      go true a later e = later e
      go false a later e = absurd (eqb-false (R.refusal x place) 0 a e)

  -- where the first j events are accepted and the one after them is not
  pub names_there : (w : Word) (x : Kept) (j : ℕ) → j < length w → Accepted R x (take j w) → (R.refusal (reached R x (take j w)) (get_or w j 0) ≡ 0 → ⊥)
      → name_told p events x w ≡ name p (reached R x (take j w)) (event_at events (get_or w j 0)) (R.refusal (reached R x (take j w)) (get_or w j 0))
  unfolding name_told reached
  names_there [] x j l h r = absurd (omega arith)
  names_there (place ∷ w) x zero l h r = rw (ne_eqb _ 0 r) refl
  names_there (place ∷ w) x (suc j) l h r = rw (eq-eqb _ 0 (h 0 (omega arith))) (names_there w (R.next x place) j (omega arith) (λ m g. h (suc m) (omega arith)) r)
