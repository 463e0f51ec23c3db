-- "A set bit that names no station, no section or an exit signal gives 2", and so does a code out of range: no such situation is sound.
-- Assumes nothing.
use Prim.Native.Nat.{ℕ, suc, ◌+◌, ◌*◌, ◌/◌, ◌%◌, ◌^◌, ◌<◌}
use mathlib.Core.Path.{◌≡◌}
use mathlib.Core.Bool.{false, not}
use native.Mathlib.Omega.{arith}
use native.Mathlib.Nat.{mul-div-mul_left, div-lt_iff_lt-mul, pow-succ'}
use borrow.Author.Tests.{eqb-true}
use lib.Dec.{T, T_not, eqb}
use lib.Pow.{pow_pos}
use Rattle.sections.specs.Sections.{◌belongs_to◌, sections_up_to}
use Rattle.sections.proofs.SetLaws.{nothing_over}
use Rattle.words.proofs.Tests.{and_at, holds_is}
use Rattle.rulebook.specs.Sound.{sound}
use Rattle.block.specs.declared.line.Plan.{Plan}
use Rattle.rulebook.specs.Situation.{Situation}
use Rattle.records.proofs.SoundParts.{sound_sets}
use Rattle.records.specs.Situation.{Codes, in_range, situation_of, sections_of}

-- a code out of range, or a bit that names no station
pub code_out_of_range : (p : Plan) (c : Codes) → in_range c ≡ false → sound p (situation_of c) ≡ false
unfolding situation_of
code_out_of_range p c h = rw h

-- the bit j of a field, whatever its length, is that of section j + 1
pub bit_names_section : (field j : ℕ) → (suc j belongs_to sections_of field) ≡ eqb (field / 2 ^ j % 2) 1
bit_names_section field j = rw (pow-succ' 2 j, mul-div-mul_left {m = 2} field (2 ^ j) (omega arith))

-- a bit that names no section
beyond : (n m k : ℕ) → n < k → T (sections_up_to n m) → T (k belongs_to m) → ⊥
beyond n m k l h t =
    let a = and_at (not (0 belongs_to m)) (eqb (m / 2 ^ (n + 1)) 0) h in
    let e = eqb-true (m / 2 ^ (n + 1)) 0 (holds_is _ a.1) in
    let b : m < 1 * 2 ^ (n + 1) = (div-lt_iff_lt-mul {k = 2 ^ (n + 1)} {x = m} {y = 1} (pow_pos (n + 1))).0 (omega arith) in
    let o : m / 2 ^ k ≡ 0 = nothing_over m (n + 1) k (omega arith) (omega arith) in
    let i = eqb-true (m / 2 ^ k % 2) 1 (holds_is _ t) in
    omega (arith, o, i)

module _ (p : Plan) (x : Situation) where
  pub occupied_no_section : (k : ℕ) → p.sections < k → T (k belongs_to x.traffic.track.occupied) → T (sound p x) → ⊥
  occupied_no_section k l t h = beyond p.sections x.traffic.track.occupied k l (sound_sets p x h).occupied t

  pub held_towards_B_no_section : (k : ℕ) → p.sections < k → T (k belongs_to x.signals.held.towardsb) → T (sound p x) → ⊥
  held_towards_B_no_section k l t h = beyond p.sections x.signals.held.towardsb k l (sound_sets p x h).heldb t

  pub held_towards_A_no_section : (k : ℕ) → p.sections < k → T (k belongs_to x.signals.held.towardsa) → T (sound p x) → ⊥
  held_towards_A_no_section k l t h = beyond p.sections x.signals.held.towardsa k l (sound_sets p x h).helda t

  -- a bit that names an exit signal: 1, and 128 + n
  pub held_exit_signal_A : T (1 belongs_to x.signals.held.towardsb) → T (sound p x) → ⊥
  held_exit_signal_A t h = T_not (1 belongs_to x.signals.held.towardsb) (sound_sets p x h).no_exit_A t

  pub held_exit_signal_B : T (p.sections belongs_to x.signals.held.towardsa) → T (sound p x) → ⊥
  held_exit_signal_B t h = T_not (p.sections belongs_to x.signals.held.towardsa) (sound_sets p x h).no_exit_B t
