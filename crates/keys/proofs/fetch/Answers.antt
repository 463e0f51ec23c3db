use mathlib.Core.Path.{◌≡◌, refl, sym, ◌∙◌}
use mathlib.Core.Bool.{Bool}
use borrow.Author.Tests.{le-leb, lt-leb}
use Rattle.std.proofs.Common.{ℕ, List}
use Rattle.keylaws.specs.Continuation.{is_continuation}
use Rattle.paper.specs.Found.{asked}
use Rattle.paper.specs.declared.question.Accepted.{Accepted}
use Rattle.keys.specs.Key.{rules}
use Rattle.keys.specs.Calls.{part_of}
use Rattle.keys.proofs.Accepted.{limits}
use Rattle.keys.proofs.fetch.Goals as goal

-- what the code's test says of the continuation
judged : (q : Accepted) (after : List ℕ) {v : Bool} → is_continuation q.count q.length after ≡ v → is_continuation (rules (asked q)).events (asked q).length after ≡ v
judged q after e = rw (← q.counted) e

pub is_continuation-requires : goal.is_continuation-requires
is_continuation-requires c = (limits c.args.q.now).0

pub returns-then-not-is_continuation : goal.returns-then-not-is_continuation
unfolding part_of
returns-then-not-is_continuation c = rw (judged c.args.q.now c.args.after.now (sym c.is_continuation.ensures ∙ c.if-not-is_continuation.true)) refl

pub returns-then-room-lt-SLOT : goal.returns-then-room-lt-SLOT
unfolding part_of
returns-then-room-lt-SLOT c = rw (judged c.args.q.now c.args.after.now (sym c.is_continuation.ensures ∙ c.if-not-is_continuation.false), lt-leb _ _ c.if-room-lt-SLOT.true) refl

pub returns : goal.returns
unfolding part_of
returns c = rw (judged c.args.q.now c.args.after.now (sym c.is_continuation.ensures ∙ c.if-not-is_continuation.false), le-leb _ _ c.if-room-lt-SLOT.false, ← c.part_after.ensures) refl
