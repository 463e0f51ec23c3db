-- Assumes nothing.
use native.Mathlib.Omega.{arith}
use borrow.Author.Rules.{rules}
use lib.ListN.{length}
use Rattle.std.proofs.lemmas.Iterator.Adapters.{YieldsList-from_rev_slice}
use Rattle.std.proofs.lemmas.Iterator.Consumers.{YieldsList-turn, YieldsList-end}
use Rattle.std.proofs.lemmas.List.{length_push}
use Rattle.records.proofs.Fronts.{bytes_of}
use Rattle.records.proofs.FieldRead.{field_turn, field_whole, field_fits}
use Rattle.records.proofs.field.section_field.Goals as goal

pub overflow_mul-m : goal.overflow_mul-m
overflow_mul-m c = omega (arith, field_fits (length c.loop-byte.yielded) c.loop-byte.m _ _ (omega arith) c.loop-byte.invariant.1)

pub overflow_add-m : goal.overflow_add-m
overflow_add-m c = omega (arith, field_fits (length c.loop-byte.yielded) c.loop-byte.m _ _ (omega arith) c.loop-byte.invariant.1)

pub loop-byte-preserved : goal.loop-byte-preserved
loop-byte-preserved c =
    let s = c.args.field.now in
    let t = YieldsList-turn (YieldsList-from_rev_slice s cc) c.loop-byte.yielded _ c.loop-byte.yielded_by _ _ c.in-Some.field-0 c.in-Some.is c.next.ensures.steps in
    rw (length_push c.loop-byte.yielded c.in-Some.field-0, c.from.ensures)
    (field_turn (length c.loop-byte.yielded) c.loop-byte.m c.in-Some.field-0.now s _ t (bytes_of s (search rules)) c.loop-byte.invariant.1)

pub returns : goal.returns
returns c =
    let s = c.args.field.now in
    let e = YieldsList-end (YieldsList-from_rev_slice s cc) c.loop-byte.yielded _ c.loop-byte.yielded_by _ _ c.in-None.is c.next.ensures.steps in
    let w = field_whole (length c.loop-byte.yielded) c.loop-byte.m s _ e.1 c.loop-byte.invariant.1 in
    record { value = w.0; fits = w.1 }
