-- What a candidate's run tells: the first refused event, or, where all are accepted, whether the readings hold where they have led. By induction on the word.
use Prim.Native.Nat.{ℕ, zero, suc, ◌+◌, ◌<◌}
use mathlib.Core.Path.{◌≡◌, refl}
use mathlib.Core.Bool.{Bool, true, false, cond}
use mathlib.Core.List.{[], ◌∷◌}
use native.Mathlib.Omega.{arith}
use lib.ListN.{length, take, get_or}
use borrow.Author.Tests.{eqb-true, eq-eqb, ne_eqb}
use Rattle.keylaws.specs.Rules.{Rules, Word, accepts}
use Rattle.keylaws.specs.Key.{reached, Accepted}
use Rattle.keylaws.specs.Run.{stopped, ended, run_from, run}
use Rattle.keylaws.proofs.Tests.{never}

module _ (R : Rules) where
  ends_from : (w : Word) (s : R.Situation) (i : ℕ) → Accepted R s w → run_from R s i w ≡ ended (R.holds (reached R s w))
  unfolding run_from reached
  ends_from [] s i h = refl
  ends_from (p ∷ w) s i h = rw (eq-eqb _ 0 (h 0 (omega arith))) (ends_from w (R.next s p) (i + 1) (λ j l. h (suc j) (omega arith)))

  stops_from : (w : Word) (s : R.Situation) (i j : ℕ) → j < length w → Accepted R s (take j w) → ¬ (R.refusal (reached R s (take j w)) (get_or w j 0) ≡ 0)
      → run_from R s i w ≡ stopped (i + j) (R.refusal (reached R s (take j w)) (get_or w j 0))
  unfolding run_from reached
  stops_from [] s i j l h r = absurd (omega arith)
  stops_from (p ∷ w) s i zero l h r = let e : i + 0 ≡ i = omega arith in rw (ne_eqb _ 0 r, e) refl
  stops_from (p ∷ w) s i (suc j) l h r =
      let e : i + suc j ≡ i + 1 + j = omega arith in
      rw (eq-eqb _ 0 (h 0 (omega arith)), e) (stops_from w (R.next s p) (i + 1) j (omega arith) (λ m g. h (suc m) (omega arith)) r)

  holds_from : (w : Word) (s : R.Situation) (i : ℕ) → (run_from R s i w).holds ≡ true → Accepted R s w × (R.holds (reached R s w) ≡ true)
  unfolding run_from reached
  holds_from [] s i h = (λ j l. absurd (omega arith), h)
  holds_from (p ∷ w) s i h = go (λ g. holds_from w (R.next s p) (i + 1) g) (accepts R s p) refl h
    where
      accepted_at : R.refusal s p ≡ 0 → Accepted R (R.next s p) w → Accepted R s (p ∷ w)
      accepted_at e a zero l = e
      accepted_at e a (suc j) l = a j (omega arith)

      go : ((run_from R (R.next s p) (i + 1) w).holds ≡ true → Accepted R (R.next s p) w × (R.holds (reached R (R.next s p) w) ≡ true)) → (b : Bool) → accepts R s p ≡ b
          → (cond b (run_from R (R.next s p) (i + 1) w) (stopped i (R.refusal s p))).holds ≡ true → Accepted R s (p ∷ w) × (R.holds (reached R (R.next s p) w) ≡ true)
      go ih true e g = let r = ih g in (accepted_at (eqb-true _ 0 e) r.0, r.1)
      go ih false e g = absurd (never false g refl)

  module _ (start : R.Situation) (w : Word) where
    -- where the first j events are accepted and the one after them is not
    pub run_stops : (j : ℕ) → j < length w → Accepted R start (take j w) → ¬ (R.refusal (reached R start (take j w)) (get_or w j 0) ≡ 0) → run R start w ≡ stopped (j + 1) (R.refusal (reached R start (take j w)) (get_or w j 0))
    run_stops j l h r = let e : j + 1 ≡ 1 + j = omega arith in rw e (stops_from w start 1 j l h r)

    -- where all are accepted
    pub run_ends : Accepted R start w → run R start w ≡ ended (R.holds (reached R start w))
    run_ends = ends_from w start 1

    -- a run that says yes was refused no event, and the readings hold where it ends
    pub run_holds : (run R start w).holds ≡ true → Accepted R start w × (R.holds (reached R start w) ≡ true)
    run_holds = holds_from w start 1
