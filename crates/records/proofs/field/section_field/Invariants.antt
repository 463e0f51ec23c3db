-- The loop's invariant: the bytes behind the i-th, as many as were yielded, are the field m.
use Rattle.std.proofs.Common.{◌≡◌, ◌-◌, ◌≤◌, length, drop}
use Rattle.forms.specs.Form.{found}
use Rattle.forms.specs.Compose.{section}
use Rattle.records.proofs.field.section_field.Given as goal

abbrev pub invariant-loop-byte : goal.invariant-loop-byte
invariant-loop-byte l =
    (length l.yielded ≤ length l.field)
    × ((section (length l.yielded)).read (drop (length l.field - length l.yielded) l.field) ≡ found l.m (drop (length l.field) l.field))
