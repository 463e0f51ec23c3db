-- A call gives at most 271,453 slots: the words of up to five of twelve places. Assumes nothing.
use Prim.Native.Nat.{ℕ, ◌≤◌}
use mathlib.Core.List.{List}
use native.Mathlib.Omega.{arith}
use lib.Dec.{eqb, leb, eqb→eq}
use lib.ListN.{length}
use Rattle.words.proofs.Tests.{if_case}
use Rattle.keylaws.specs.Continuation.{is_continuation}
use Rattle.keylaws.specs.Parts.{part_after}
use Rattle.keylaws.proofs.KeyIsBounded.{part_few as few}
use Rattle.paper.specs.Read.{read_of}
use Rattle.paper.specs.Question.{Question}
use Rattle.keys.specs.Key.{rules, Bounded}
use Rattle.keys.specs.Calls.{Fetch, nothing, given, part_of, fetched}
use Rattle.keys.proofs.Accepted.{bounded}

abbrev Few : Fetch → Type 0
Few f = f.part.count ≤ 271453

module _ (q : Question) (b : Bounded q) (after room : List ℕ) where
  part_few : Few (part_of q after room)
  unfolding part_of
  part_few =
      if_case Few (is_continuation (rules q).events q.length after) _ (nothing 22 room)
      (λ t.
      if_case Few (leb 6 (length room)) (given (part_after (rules q) q.length q.situation after room)) (nothing 24 room)
      (λ u. few (rules q) q.length q.situation b.0 b.2 after room)
      (λ u. omega arith))
      (λ t. omega arith)

pub count_bounded : (bytes after room : List ℕ) → (fetched (read_of bytes) after room).part.count ≤ 271453
count_bounded bytes after room =
    if_case Few (eqb (read_of bytes).refusal 0) (part_of (read_of bytes).question after room) (nothing (read_of bytes).refusal room)
    (λ t. part_few (read_of bytes).question (bounded bytes (eqb→eq (read_of bytes).refusal 0 t)) after room) (λ t. omega arith)
