use mathlib.Core.Path.{◌≡◌, sym, ap, subst, ◌∙◌}
use Prim.Native.Nat.{ℕ}
use Rattle.sections.specs.Sections.{only}
use Rattle.sections.specs.Sets.{either, ◌minus◌}
use Rattle.block.specs.Line.{first_section, entrance}
use Rattle.block.specs.declared.line.Name.{Name}
use Rattle.situation.specs.Packed.{unpacked}
use Rattle.aspects.specs.Aspects.{is_open}
use Rattle.signals.specs.SignalSets.{Those, OffLine}
use Rattle.signals.proofs.LitLaws.{open_set, off_minus, off_either, nothing_open}
use Rattle.signals.proofs.lights.View.open_signals.Goals as goal

pub returns : goal.returns
returns c =
    let a = c.args in
    let v = a.self in
    let x = unpacked v.situation in
    let blocks = c.block_lit-blocks in
    let exit = c.exit_lit-exit in
    let first = only (first_section v.plan (entrance v.towards)) in
    let lit = either (blocks.result minus first) exit.result in
    let set : c.minus-2.result ≡ lit minus x.traffic.track.occupied =
    c.minus-2.ensures
    ∙ ap (λ (m : ℕ). m minus x.traffic.track.occupied)
    (c.either-lit.ensures ∙ ap (λ (m : ℕ). either m exit.result) (c.minus.ensures ∙ ap (λ (m : ℕ). blocks.result minus m) (c.first.ensures ∙ ap (λ (n : Name). only (first_section v.plan n)) c.entrance-s.ensures))) in (
      subst (Those v.plan (is_open v.plan x v.towards)) (sym set) (open_set v.plan x v.towards blocks.result exit.result v.is_plan blocks.ensures.0 exit.ensures.0),
      subst (OffLine v.plan) (sym set)
          (off_minus v.plan lit x.traffic.track.occupied (off_either v.plan (blocks.result minus first) exit.result (off_minus v.plan blocks.result first blocks.ensures.1) exit.ensures.1)),
    )

pub returns-then-not-runs : goal.returns-then-not-runs
returns-then-not-runs c =
    let v = c.args.self in
    nothing_open v.plan (unpacked v.situation) v.towards (sym c.runs.ensures ∙ c.if-not-runs.true)
