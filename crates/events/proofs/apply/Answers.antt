use Prim.Native.Nat.{ℕ}
use mathlib.Core.Path.{◌≡◌, sym, ap, ◌∙◌}
use Rattle.std.specs.Prelude.{Err, eqb, if◌then◌else◌}
use Rattle.block.specs.declared.line.Plan.{Plan}
use Rattle.block.specs.declared.event.Event.{Event}
use Rattle.block.proofs.Told.{not_accepted}
use Rattle.rulebook.specs.Situation.{Kept}
use Rattle.rulebook.specs.Judged.{judged}
use Rattle.rulebook.specs.Apply.{accepted, refused, stepped, applied}
use Rattle.situation.specs.Packed.{unpacked}
use Rattle.events.specs.declared.HandedBack.{HandedBack}
use Rattle.events.specs.Outcomes.{outcome}
use Rattle.events.proofs.Steps.{as_accepted, as_refused}
use Rattle.events.proofs.apply.Goals as goal

-- of a plan and a situation that are judged
step_applied : (p : Plan) (x : Kept) (e : Event) → 0 ≡ judged p x → stepped p x e ≡ applied p x e
step_applied p x e h = ap (λ (j : ℕ). if eqb j 0 then stepped p x e else refused j x) h

pub returns-in-Err-refusal-clause-result_value : goal.returns-in-Err-refusal-clause-result_value
returns-in-Err-refusal-clause-result_value c =
    let a = c.args in
    let x = unpacked a.x in
    let e = c.in-Err-refusal.ensures in
    ap (λ (back : HandedBack). outcome (Err back)) c.handed_back-in-Err-refusal.ensures ∙ ap (λ (n : ℕ). refused n x) e
    ∙ sym (as_refused a.plan x a.event (λ z. not_accepted _ (e ∙ z)))
    ∙ step_applied a.plan x a.event c.in_default.ensures

pub returns-clause-result_value : goal.returns-clause-result_value
returns-clause-result_value c =
    let a = c.args in
    let x = unpacked a.x in
    ap accepted c.next-next.ensures ∙ sym (as_accepted a.plan x a.event (sym c.in_default-refusal.ensures)) ∙ step_applied a.plan x a.event c.in_default.ensures
