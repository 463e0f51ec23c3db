-- A word is in the key exactly if it is an answer: no answer is missing from a key, and nothing else is in it. By induction on the length that remains.
use Prim.Native.Nat.{ℕ, zero, suc, ◌≤◌}
use mathlib.Core.Path.{◌≡◌}
use mathlib.Core.Logic.{⊎_elim, ◌↔◌}
use mathlib.Core.Bool.{true}
use mathlib.Core.List.Memᴰ.{append_cases as split-append}
use mathlib.Core.List.Memᴰ.{append_left as in_left}
use mathlib.Core.List.Memᴰ.{append_right as in_right}
use mathlib.Core.List.{[], ◌∷◌}
use native.Mathlib.Omega.{arith}
use borrow.Author.Tests.{eqb-true, eq-eqb}
use Rattle.keylaws.specs.Rules.{Rules, Word, accepts}
use Rattle.keylaws.specs.Key.{empty_if, through, answers, reached, Permitted, Accepted, Answer, ◌among◌}
use Rattle.keylaws.proofs.Among.{of_empty, in_empty, of_turns, in_turns, of_through, in_through}

module _ (R : Rules) where
  -- ---- an answer, event by event
  answer_empty : (k : ℕ) (s : R.Situation) (w : Word) → (w ≡ []) × (R.holds s ≡ true) → Answer R k s w
  unfolding reached
  answer_empty k s w e = rw e.0 (record { short = omega arith; permitted = λ i h. absurd (omega arith); accepted = λ i h. absurd (omega arith); ends = e.1 })

  answer_longer : (k : ℕ) (s : R.Situation) (p : ℕ) (w : Word) → 1 ≤ p → p ≤ R.events → accepts R s p ≡ true → Answer R k (R.next s p) w → Answer R (suc k) s (p ∷ w)
  unfolding reached
  answer_longer k s p w h g e a = record { short = omega (arith, a.short); permitted = permitted_at; accepted = accepted_at; ends = a.ends }
    where
      permitted_at : Permitted R.events (p ∷ w)
      permitted_at zero l = (h, g)
      permitted_at (suc i) l = a.permitted i (omega arith)

      accepted_at : Accepted R s (p ∷ w)
      accepted_at zero l = eqb-true _ 0 e
      accepted_at (suc i) l = a.accepted i (omega arith)

  answer_shorter : (k : ℕ) (s : R.Situation) (p : ℕ) (w : Word) → Answer R (suc k) s (p ∷ w) → Answer R k (R.next s p) w
  unfolding reached
  answer_shorter k s p w a = record { short = omega (arith, a.short); permitted = λ i h. a.permitted (suc i) (omega arith); accepted = λ i h. a.accepted (suc i) (omega arith); ends = a.ends }

  -- ---- none missing
  longer_in : (k : ℕ) (s : R.Situation) (p : ℕ) (w : Word) → 1 ≤ p → p ≤ R.events → R.refusal s p ≡ 0 → w among answers R k (R.next s p) → p ∷ w among answers R (suc k) s
  unfolding answers
  longer_in k s p w h g e m = in_right (empty_if (R.holds s)) (in_turns (through R (answers R k) s) (p ∷ w) p _ 1 h (omega arith) (in_through R (answers R k) s p w (eq-eqb _ 0 e) m))

  pub complete : (limit : ℕ) (start : R.Situation) (w : Word) → Answer R limit start w → w among answers R limit start
  unfolding answers reached
  complete zero s [] a = in_empty (R.holds s) a.ends
  complete (suc k) s [] a = in_left _ (in_empty (R.holds s) a.ends)
  complete zero s (p ∷ w) a = absurd (omega (arith, a.short))
  complete (suc k) s (p ∷ w) a =
      let one = a.permitted 0 (omega arith) in
      longer_in k s p w one.0 one.1 (a.accepted 0 (omega arith)) (complete k (R.next s p) w (answer_shorter k s p w a))

  -- ---- nothing else
  pub sound : (limit : ℕ) (start : R.Situation) (w : Word) → w among answers R limit start → Answer R limit start w
  unfolding answers
  sound zero s w m = answer_empty 0 s w (of_empty (R.holds s) w m)
  sound (suc k) s w m =
      ⊎_elim (λ n. answer_empty (suc k) s w (of_empty (R.holds s) w n))
      (λ n.
      let r = of_turns (through R (answers R k) s) w _ 1 n in
      let z = of_through R (answers R k) s r.0 w r.3 in
      rw z.1 (answer_longer k s r.0 z.0 r.1 (omega (arith, r.2)) z.2 (sound k (R.next s r.0) z.0 z.3)))
      (split-append (empty_if (R.holds s)) m)

  pub exactly_the_answers : (limit : ℕ) (start : R.Situation) (w : Word) → (w among answers R limit start) ↔ Answer R limit start w
  exactly_the_answers limit start w = (sound limit start w, complete limit start w)
