-- Nothing is written where the definition gives nothing; else the slots have room for the lines that fit.
use Rattle.std.specs.Prelude.{None, Some}
use Rattle.std.proofs.Common.{◌≡◌, ℕ, true, ltb, List, length, sym, refl, arith, lt-ltb}
use Rattle.words.specs.Words.{◌or◌}
use Rattle.keytext.specs.Room.{over}
use Rattle.keytext.proofs.RoomLaws.{over_none, within}
use Rattle.printing.specs.Pieces.{Progress, progress_of, piece}
use Rattle.printing.proofs.PieceSteps.{nothing_given}
use Rattle.printing.proofs.next_piece.Goals as goal

nothing : (q : List ℕ) (p : Progress) (room : List ℕ) → p.ended or ltb (length room) 47 ≡ true
    → (0 ≡ length (piece q p (length room)).text) × (room ≡ over 0 (piece q p (length room)).text room) × (p ≡ (piece q p (length room)).next)
nothing q p room e = rw (nothing_given q p (length room) e) (refl, sym (over_none 0 room), refl)

pub returns-in_default-clause-told : goal.returns-in_default-clause-told
returns-in_default-clause-told c = rw c.in_default.is (nothing c.args.question.now (progress_of None) c.args.room.now refl).0

pub returns-in_default-clause-room : goal.returns-in_default-clause-room
returns-in_default-clause-room c = rw c.in_default.is (nothing c.args.question.now (progress_of None) c.args.room.now refl).1

pub returns-in_default-clause-next : goal.returns-in_default-clause-next
returns-in_default-clause-next c = rw c.in_default.is (nothing c.args.question.now (progress_of None) c.args.room.now refl).2

pub returns-then-room-clause-told : goal.returns-then-room-clause-told
returns-then-room-clause-told c = rw c.in-Some.is (nothing c.args.question.now (progress_of (Some c.in-Some.at)) c.args.room.now (lt-ltb _ _ c.if-room.true)).0

pub returns-then-room-clause-room : goal.returns-then-room-clause-room
returns-then-room-clause-room c = rw c.in-Some.is (nothing c.args.question.now (progress_of (Some c.in-Some.at)) c.args.room.now (lt-ltb _ _ c.if-room.true)).1

pub returns-then-room-clause-next : goal.returns-then-room-clause-next
returns-then-room-clause-next c = rw c.in-Some.is (nothing c.args.question.now (progress_of (Some c.in-Some.at)) c.args.room.now (lt-ltb _ _ c.if-room.true)).2

pub returns-clause-within : goal.returns-clause-within
returns-clause-within c = let p = c.piece_after in omega (arith, p.ensures.told, within _ _ _ p.ensures.room p.auto.room)
