-- The slots of a call are so few that the packed number fits. Assumes nothing.
use Prim.Native.Nat.{◌≤◌}
use mathlib.Core.Path.{◌≡◌, sym, subst}
use Rattle.keys.specs.Calls.{Fetch}
use Rattle.folvkin.proofs.CountBounded.{count_bounded}
use borrow.Author.Rules.{rules}
use Rattle.folvkin.proofs.question_calls.folvkin_key.Goals as goal

at_most : {f g : Fetch} → f ≡ g → g.part.count ≤ 271453 → f.part.count ≤ 271453
at_most e h = subst (λ (f : Fetch). f.part.count ≤ 271453) (sym e) h

pub overflow_mul-result-in-Ok : goal.overflow_mul-result-in-Ok
overflow_mul-result-in-Ok c =
    let a = c.args in
    let few : c.in-Ok.part.count ≤ 271453 = at_most c.in-Ok.ensures (count_bounded a.bytes.now a.after.now a.room.now) in
    search rules

pub overflow_add-result : goal.overflow_add-result
overflow_add-result c =
    let a = c.args in
    let few : c.in-Ok.part.count ≤ 271453 = at_most c.in-Ok.ensures (count_bounded a.bytes.now a.after.now a.room.now) in
    search rules
