-- What a call tells, refusal by refusal. Assumes nothing.
use Prim.Native.Nat.{ℕ, ◌+◌, ◌*◌}
use mathlib.Core.Path.{◌≡◌}
use mathlib.Core.List.{List}
use native.Mathlib.Omega.{arith}
use borrow.Author.Tests.{ne_eqb}
use lib.ListN.{length}
use Rattle.forms.specs.Form.{laid}
use Rattle.folvkin.specs.Block.{told_with, room_with}

-- ---- what is told and left in the room
module _ {t r : ℕ} (e : t ≡ r) (z : r ≡ 0 → ⊥) (after : List ℕ) where
  -- with what the refusal names
  pub refused_told : (name : ℕ → ℕ) {n : ℕ} → n ≡ name r → r + 256 * n ≡ told_with t (name t) after
  refused_told name h = rw (e, ne_eqb r 0 z, h) (omega arith)

  pub refused_room : (room : List ℕ) → room ≡ room_with t after room
  refused_room room = rw (e, ne_eqb r 0 z)

module _ {t : ℕ} (e : t ≡ 0) (after : List ℕ) where
  pub accepted_told : (name : ℕ → ℕ) → name 0 ≡ 0 → {n : ℕ} → n ≡ length after → 65536 * n ≡ told_with t (name t) after
  accepted_told name g {n} h = rw (e, g, h) (omega arith)

  pub accepted_room : (room left : List ℕ) → left ≡ laid after room → left ≡ room_with t after room
  accepted_room room left h = rw e h
