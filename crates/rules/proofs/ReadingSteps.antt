-- Nothing here has to be believed. The readings one by one, as the code goes through them.
use Prim.Native.Nat.{ℕ, ◌<◌}
use mathlib.Core.Path.{◌≡◌, refl}
use mathlib.Core.Bool.{true}
use mathlib.Core.List.{List, [], ◌∷◌, ◌++◌}
use native.Mathlib.Omega.{arith}
use lib.ListN.{length, get_or}
use Rattle.words.specs.Words.{◌and◌}
use Rattle.block.specs.declared.line.Plan.{Plan}
use Rattle.rulebook.specs.Situation.{Situation}
use Rattle.records.specs.InBytes.{readings_in}
use Rattle.records.proofs.InBytes.{readings_end}
use Rattle.rules.specs.RulesOf.{all_hold}
use Rattle.rules.specs.Wanted.{with_reading, with_readings, aspect_holds, aspects_hold}
use Rattle.rules.specs.declared.wanted.Wanted.{Wanted}

module _ (p : Plan) (x : Situation) (t : List ℕ) where
  pub hold_end : length t < 3 → all_hold p (readings_in t) x ≡ true
  unfolding all_hold
  hold_end h = rw (readings_end t h)

  pub aspects_end : length t < 3 → aspects_hold p (readings_in t) x ≡ true
  unfolding aspects_hold
  aspects_end h = rw (readings_end t h)

-- three bytes are a reading
pub aspects_step : (p : Plan) (x : Situation) (t front rest : List ℕ) → t ≡ front ++ rest → length front ≡ 3
    → aspects_hold p (readings_in t) x ≡ aspect_holds p x (get_or front 0 0) (get_or front 1 0) (get_or front 2 0) and aspects_hold p (readings_in rest) x
unfolding aspects_hold readings_in
aspects_step p x t [] rest e h = absurd (omega arith)
aspects_step p x t (k ∷ []) rest e h = absurd (omega arith)
aspects_step p x t (k ∷ a ∷ []) rest e h = absurd (omega arith)
aspects_step p x t (k ∷ a ∷ v ∷ []) rest e h = rw e
aspects_step p x t (k ∷ a ∷ v ∷ z ∷ front) rest e h = absurd (omega arith)

pub want_step : (w : Wanted) (t front rest : List ℕ) (left : ℕ) → t ≡ front ++ rest → length front ≡ 3 → left ≡ length t
    → with_readings w t ≡ with_readings (with_reading (get_or front 0 0) (get_or front 1 0) (get_or front 2 0) left w) rest
unfolding with_readings
want_step w t [] rest left e h l = absurd (omega arith)
want_step w t (k ∷ []) rest left e h l = absurd (omega arith)
want_step w t (k ∷ a ∷ []) rest left e h l = absurd (omega arith)
want_step w t (k ∷ a ∷ v ∷ []) rest left e h l = rw (l, e)
want_step w t (k ∷ a ∷ v ∷ z ∷ front) rest left e h l = absurd (omega arith)

pub want_end : (w : Wanted) (t : List ℕ) → length t < 3 → with_readings w t ≡ w
unfolding with_readings
want_end w [] h = refl
want_end w (k ∷ []) h = refl
want_end w (k ∷ a ∷ []) h = refl
want_end w (k ∷ a ∷ v ∷ t) h = absurd (omega arith)
