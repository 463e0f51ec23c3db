use Prim.Native.Nat.{ℕ}
use mathlib.Core.Path.{◌≡◌, sym, ap, ◌∙◌}
use Rattle.block.specs.Refusals.{told}
use Rattle.block.specs.declared.line.Plan.{Plan}
use Rattle.block.specs.declared.event.Event.{Event}
use Rattle.block.proofs.Told.{not_accepted}
use Rattle.rulebook.specs.Situation.{Kept}
use Rattle.rulebook.specs.Apply.{own_refusal}
use Rattle.situation.specs.Packed.{unpacked}
use Rattle.refusals.specs.InOrder.{own_run}
use Rattle.refusals.proofs.InOrder.{own_in_order}
use Rattle.events.proofs.Added.{refused_first, then_2012, then_2024, own_is}
use borrow.Author.Rules.{rules}
use Rattle.events.proofs.own_refusal.Goals as goal

-- what the event is refused for is what its row's checks give, one after the other
checked : (p : Plan) (x : Kept) (e : Event) {n : ℕ} → n ≡ own_refusal p x e → n ≡ own_run p x e
checked p x e h = h ∙ sym (own_in_order p x e)

pub returns-in_err-refusal_in_2024 : goal.returns-in_err-refusal_in_2024
returns-in_err-refusal_in_2024 c =
    let a = c.args in
    let x = unpacked a.x in
    let first = own_is a.plan x a.event c.refusal_in_2024.ensures (refused_first a.plan x a.event (λ z. not_accepted _ (sym (ap told c.in_err-refusal_in_2024.was) ∙ z))) in
    let in_turn = checked a.plan x a.event first in record { value = search rules; in_order = search rules }

pub returns-then-plan : goal.returns-then-plan
returns-then-plan c =
    let a = c.args in
    let x = unpacked a.x in
    let value = own_is a.plan x a.event c.refusal_in_2024.ensures (then_2012 a.plan x a.event (ap told c.in_ok-refusal_in_2024.was) c.if-plan.true c.added_in_2012.ensures) in record { value = value; in_order = checked a.plan x a.event value }

pub returns : goal.returns
returns c =
    let a = c.args in
    let x = unpacked a.x in
    let value = own_is a.plan x a.event c.refusal_in_2024.ensures (then_2024 a.plan x a.event (ap told c.in_ok-refusal_in_2024.was) c.if-plan.false) in record { value = value; in_order = checked a.plan x a.event value }
