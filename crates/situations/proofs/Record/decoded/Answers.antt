use mathlib.Core.Path.{◌≡◌, ◌∙◌}
use native.Mathlib.Omega.{arith}
use borrow.Author.Rules.{rules}
use lib.ListN.{length}
use Rattle.records.specs.InBytes.{codes_at}
use Rattle.situations.specs.InWords.{in_words}
use Rattle.situations.proofs.RecordParts.{field_alone}
use Rattle.situations.proofs.Record.decoded.Goals as goal

pub returns : goal.returns
unfolding in_words codes_at
returns c =
    let s = c.args.self.now.bytes.now in
    let l : length s ≡ 21 = search rules in
    rw (
      c.section_field-3.ensures.value ∙ field_alone s 15 (omega arith),
      c.section_field-2.ensures.value ∙ field_alone s 19 (omega arith),
      c.section_field.ensures.value ∙ field_alone s 17 (omega arith),
      c.flags.ensures,
    )
