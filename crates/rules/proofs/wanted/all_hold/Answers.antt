use mathlib.Core.Path.{sym, ◌∙◌}
use Rattle.situation.specs.Packed.{unpacked}
use Rattle.records.proofs.InBytes.{part_from}
use Rattle.rules.proofs.ReadingsTogether.{aspects_within, all_hold_is}
use Rattle.rules.proofs.wanted.all_hold.Goals as goal

pub returns-then-not-allows : goal.returns-then-not-allows
returns-then-not-allows c =
    sym (all_hold_is _ c.args.x _ _ c.requires.1 ∙ rw (sym c.allows.ensures ∙ c.if-not-allows.true))

pub returns : goal.returns
returns c =
    sym (all_hold_is _ c.args.x _ _ c.requires.1 ∙ rw (sym c.allows.ensures ∙ c.if-not-allows.false) (sym (c.aspects_hold.ensures ∙ rw part_from)))

pub overflow_sub-from : goal.overflow_sub-from
overflow_sub-from c = aspects_within c.args.plan (unpacked c.args.x) c.args.w c.args.readings.now c.requires.1
