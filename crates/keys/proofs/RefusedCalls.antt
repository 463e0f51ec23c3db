-- A call on bytes that are refused. Assumes nothing.
use Prim.Native.Nat.{ℕ}
use mathlib.Core.Path.{◌≡◌, refl}
use mathlib.Core.List.{List}
use borrow.Author.Tests.{ne_eqb}
use Rattle.block.specs.Refusals.{number}
use Rattle.block.specs.declared.refused.Refusal.{Refusal}
use Rattle.block.proofs.Told.{not_accepted}
use Rattle.paper.specs.Read.{Read, refused}
use Rattle.keys.specs.Calls.{nothing, fetched, not_run, ran}

module _ (r : Refusal) (read : Read) (h : refused (number r) ≡ read) where
  pub key_refused : (after room : List ℕ) → nothing (number r) room ≡ fetched read after room
  unfolding refused
  key_refused after room = rw (← h, ne_eqb (number r) 0 (not_accepted r)) refl

  pub run_refused : (slot : List ℕ) → not_run (number r) ≡ ran read slot
  unfolding refused
  run_refused slot = rw (← h, ne_eqb (number r) 0 (not_accepted r)) refl
