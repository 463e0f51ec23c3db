use mathlib.Core.Path.{sym, ap, ◌∙◌}
use Rattle.block.specs.Refusals.{told}
use Rattle.block.proofs.Told.{not_accepted}
use Rattle.situation.specs.Packed.{unpacked}
use Rattle.events.proofs.Steps.{bytes_refused, bytes_accepted}
use borrow.Author.Rules.{rules}
use Rattle.events.proofs.refusal.Goals as goal

pub returns-in_err-bytes_refusal : goal.returns-in_err-bytes_refusal
returns-in_err-bytes_refusal c =
    let a = c.args in
    let first = bytes_refused a.plan (unpacked a.x) a.event c.bytes_refusal.ensures (λ z. not_accepted _ (sym (ap told c.in_err-bytes_refusal.was) ∙ z)) in
    search rules

pub returns : goal.returns
returns c =
    let a = c.args in
    bytes_accepted a.plan (unpacked a.x) a.event c.bytes_refusal.ensures (ap told c.in_ok-bytes_refusal.was) c.own_refusal.ensures.value
