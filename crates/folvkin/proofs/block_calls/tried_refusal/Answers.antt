use mathlib.Core.Path.{◌≡◌, refl, sym, ◌∙◌}
use Rattle.block.specs.Refusals.{number}
use Rattle.block.proofs.Told.{not_accepted}
use Rattle.lists.proofs.RightLists.{first_refusal, next_refusal}
use Rattle.situation.specs.Packed.{unpacked}
use Rattle.folvkin.specs.Block.{tried_refusal}
use borrow.Author.Rules.{rules}
use Rattle.folvkin.proofs.block_calls.tried_refusal.Goals as goal

pub returns-in_err-judged : goal.returns-in_err-judged
returns-in_err-judged c =
    let a = c.args in
    let first : number c.in_err-judged.field-0.0 ≡ tried_refusal a.plan (unpacked a.x) a.event a.room = sym (first_refusal _ c.in_err-judged.ensures (not_accepted _)) in
    search rules

pub returns-in_err-event_refusal : goal.returns-in_err-event_refusal
returns-in_err-event_refusal c =
    let a = c.args in
    let next : number c.in_err-event_refusal.field-0.0 ≡ tried_refusal a.plan (unpacked a.x) a.event a.room =
    sym (next_refusal _ c.in_ok-judged.ensures refl ∙ first_refusal _ c.in_err-event_refusal.ensures (not_accepted _)) in
    search rules
