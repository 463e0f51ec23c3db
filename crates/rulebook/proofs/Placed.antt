-- What is known of the place that a right argument names. Assumes nothing.
use Prim.Native.Nat.{ℕ, ◌≤◌, ◌<◌}
use mathlib.Core.Bool.{not}
use mathlib.Core.Path.{◌≡◌, subst}
use native.Mathlib.Omega.{arith}
use borrow.Author.Tests.{lt-leb}
use lib.Dec.{T, eqb, eqb→eq}
use Rattle.words.proofs.Tests.{and_at, holds_is, not_equal}
use Rattle.block.specs.Line.{is_section, first_section, entrance, direction_of, section_of, is_block_signal, is_exit}
use Rattle.block.proofs.PlanLaws.{within}
use Rattle.rulebook.specs.Apply.{fits}
use Rattle.rulebook.specs.Table.{signal, section}
use Rattle.block.specs.declared.line.Plan.{Plan}
use Rattle.block.specs.declared.line.Direction.{Direction}

-- k is one of n sections, which a set has bits for
pub record InLine (n k : ℕ) : Type 0 where
  pub low : 1 ≤ k
  pub high : k ≤ n
  pub short : n < 49

-- the section of a signal is not the one of its direction's exit signal
pub record OfBlockSignal (q : Plan) (d : Direction) (k : ℕ) : Type 0 where
  pub line : InLine q.sections k
  pub no_exit : k ≡ first_section q (entrance d) → ⊥

pub record Placed (q : Plan) (names k : ℕ) (d : Direction) : Type 0 where
  pub section : T (eqb names section) → InLine q.sections k
  pub signal : T (eqb names signal) → OfBlockSignal q d k

module _ (q : Plan) (short : q.sections < 49) where
  in_line : (k : ℕ) → T (is_section q k) → InLine q.sections k
  in_line k t =
      let w = within q k (holds_is (is_section q k) t) in
      record { low = w.least; high = w.most; short = short }

  section_placed : (arg : ℕ) → T (is_section q arg) → InLine q.sections (section_of arg)
  section_placed arg t =
      let l : InLine q.sections arg = in_line arg t in
      let small : arg < 128 = omega (arith, l.high, l.short) in
      rw (lt-leb 128 arg small) l

  signal_placed : (arg : ℕ) → T (is_block_signal q arg) → OfBlockSignal q (direction_of arg) (section_of arg)
  signal_placed arg t =
      let h = and_at (is_section q (section_of arg)) (not (is_exit q (direction_of arg) (section_of arg))) t in
      record { line = in_line (section_of arg) h.0; no_exit = not_equal (section_of arg) (first_section q (entrance (direction_of arg))) h.1 }

  pub placed : (names arg : ℕ) → T (fits q names arg) → Placed q names (section_of arg) (direction_of arg)
  placed names arg ok =
      let by : (n : ℕ) → T (eqb names n) → T (fits q n arg) = λ n t. subst (λ (m : ℕ). T (fits q m arg)) (eqb→eq names n t) ok in
      record { section = λ t. section_placed arg (by section t); signal = λ t. signal_placed arg (by signal t) }
