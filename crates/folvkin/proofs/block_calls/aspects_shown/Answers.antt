use Prim.Native.Nat.{◌+◌}
use mathlib.Core.Path.{◌≡◌, refl, sym, ◌∙◌}
use native.Mathlib.Omega.{arith}
use borrow.Author.Tests.{le-leb, lt-leb, ne_eqb}
use lib.Dec.{eqb, leb}
use mathlib.Core.Bool.{false}
use lib.ListN.{length}
use Rattle.block.specs.Refusals.{number}
use Rattle.block.proofs.Told.{not_accepted}
use Rattle.rulebook.specs.Judged.{judged}
use Rattle.situation.specs.Packed.{unpacked}
use Rattle.lists.specs.Refusal.{◌unless◌, ◌or_else◌}
use Rattle.lists.proofs.RightLists.{first_refusal, next_refusal}
use Rattle.folvkin.proofs.AspectsWritten.{all_long}
use borrow.Author.Rules.{rules}
use Rattle.folvkin.proofs.block_calls.aspects_shown.Goals as goal

pub returns-in_err-judged-clause-value : goal.returns-in_err-judged-clause-value
returns-in_err-judged-clause-value c =
    let a = c.args in
    let first : number c.in_err-judged.field-0.0 ≡ judged a.plan (unpacked a.x) or_else 24 unless leb (a.plan.sections + a.plan.sections) (length a.room.now) =
    sym (first_refusal _ c.in_err-judged.ensures (not_accepted _)) in
    search rules

pub returns-in_err-judged-clause-room_after : goal.returns-in_err-judged-clause-room_after
returns-in_err-judged-clause-room_after c =
    let same : eqb (number c.in_err-judged.field-0.0) 0 ≡ false = ne_eqb _ 0 (not_accepted _) in
    search rules

pub returns-then-room-n-clause-value : goal.returns-then-room-n-clause-value
returns-then-room-n-clause-value c =
    sym (next_refusal _ c.in_ok-judged.ensures refl ∙ rw (lt-leb (c.args.plan.sections + c.args.plan.sections) (length c.args.room.now) (omega (arith, c.if-room-n.true, c.from-n.ensures))))

pub returns-clause-value : goal.returns-clause-value
returns-clause-value c =
    sym (next_refusal _ c.in_ok-judged.ensures refl ∙ rw (le-leb (c.args.plan.sections + c.args.plan.sections) (length c.args.room.now) (omega (arith, c.if-room-n.false, c.from-n.ensures))))

pub returns-clause-room_after : goal.returns-clause-room_after
returns-clause-room_after c = rw all_long c.show.ensures
