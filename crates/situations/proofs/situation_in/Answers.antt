-- The words of codes in range say their situation. Assumes nothing.
use mathlib.Core.Path.{sym, ap, ◌∙◌}
use Rattle.situation.specs.Packed.{unpacked}
use Rattle.records.specs.Situation.{situation_of}
use Rattle.situations.proofs.WordLaws.{in_words_say}
use Rattle.situations.proofs.situation_in.Goals as goal

pub returns-then-in_range : goal.returns-then-in_range
unfolding situation_of
returns-then-in_range c =
    let r = sym c.in_range.ensures ∙ c.if-in_range.true in
    rw (← c.new-record.ensures, r) (ap unpacked c.decoded.ensures ∙ in_words_say _ r)

pub returns : goal.returns
unfolding situation_of
returns c = rw (← c.new-record.ensures, sym c.in_range.ensures ∙ c.if-in_range.false) c.no_situation.ensures
