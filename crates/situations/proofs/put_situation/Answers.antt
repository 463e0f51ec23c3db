use Prim.Native.Nat.{ℕ, ◌≤◌}
use mathlib.Core.Path.{◌≡◌, sym, ap, ap₂, ◌∙◌}
use mathlib.Core.List.{List}
use native.Mathlib.Omega.{arith}
use borrow.Author.Rules.{rules}
use lib.ListN.{length, take}
use lib.Seq.{length-take-le}
use Rattle.situation.specs.Packed.{unpacked}
use Rattle.forms.specs.Form.{laid}
use Rattle.records.specs.Situation.{Codes, codes_of}
use Rattle.records.specs.InBytes.{situation_size}
use Rattle.records.proofs.SituationForms.{size_between}
use Rattle.situations.proofs.put_situation.Goals as goal

-- the bytes are 23, as many as an SJ has
fits : (x : Codes) (n : ℕ) (bytes : List ℕ) → n ≡ situation_size x → length bytes ≡ 23 → n ≤ length bytes
fits x n bytes e l = omega (arith, e, l, (size_between x).1)

size : (x : Codes) (n : ℕ) (bytes : List ℕ) → n ≡ situation_size x → length bytes ≡ 23 → length (take n bytes) ≡ situation_size x
size x n bytes e l = length-take-le n bytes (fits x n bytes e l) ∙ e

pub slice_bounds-record-end : goal.slice_bounds-record-end
slice_bounds-record-end c = fits (codes_of (unpacked c.args.x)) c.record_size-size.result c.record_of-record.result c.record_size-size.ensures (search rules)

pub slice_bounds-copy-end : goal.slice_bounds-copy-end
slice_bounds-copy-end c = sym (length-take-le c.record_size-size.result c.record_of-record.result (fits (codes_of (unpacked c.args.x)) c.record_size-size.result c.record_of-record.result c.record_size-size.ensures (search rules)))

pub returns-clause-value : goal.returns-clause-value
returns-clause-value c = c.copy.ensures.count ∙ size (codes_of (unpacked c.args.x)) c.record_size-size.result c.record_of-record.result c.record_size-size.ensures (search rules)

pub returns-clause-room_after : goal.returns-clause-room_after
returns-clause-room_after c = c.copy.ensures.copied ∙ ap (λ (t : List ℕ). laid t c.args.room.now) (ap₂ take c.record_size-size.ensures c.record_of-record.ensures)
