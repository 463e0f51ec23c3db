use Prim.Native.Nat.{ℕ}
use mathlib.Core.Path.{refl, sym, ap, ◌∙◌}
use mathlib.Core.List.{List}
use native.Mathlib.Omega.{arith}
use lib.ListN.{length, take}
use Rattle.block.proofs.Told.{not_accepted}
use Rattle.rulebook.specs.Situation.{Kept}
use Rattle.rulebook.specs.Apply.{reached}
use Rattle.rulebook.specs.Names.{name}
use Rattle.forms.specs.Form.{laid}
use Rattle.records.specs.Situation.{codes_of, situation}
use Rattle.records.specs.InBytes.{situation_size, situation_bytes}
use Rattle.records.proofs.SituationForms.{size_between, size_is, bytes_are}
use Rattle.situation.specs.Packed.{unpacked}
use Rattle.folvkin.specs.Block.{record_after}
use Rattle.folvkin.proofs.RoomLeft.{room_enough, record_fits}
use Rattle.folvkin.proofs.CallsTold.{refused_told, refused_room, accepted_told, accepted_room}
use Rattle.folvkin.proofs.block_calls.event_written.Goals as goal

pub returns-in-Err-clause-value : goal.returns-in-Err-clause-value
returns-in-Err-clause-value c =
    let a = c.args in
    rw (c.from.ensures, c.from-in-Err.ensures)
    (refused_told (sym (c.from-number.ensures ∙ c.in-Err.ensures)) (λ z. not_accepted _ (sym c.from-number.ensures ∙ z)) (record_after a.plan (unpacked a.x) a.event) (name a.plan (unpacked a.x) a.event) c.name_of-name.ensures)

pub returns-in-Err-clause-room_after : goal.returns-in-Err-clause-room_after
returns-in-Err-clause-room_after c =
    let a = c.args in
    refused_room (sym c.in-Err.ensures) (not_accepted _) (record_after a.plan (unpacked a.x) a.event) a.room.now

pub put_situation-length-requires : goal.put_situation-length-requires
put_situation-length-requires c =
    let a = c.args in
    omega (arith, room_enough a.plan (unpacked a.x) a.event (length a.room.now) (sym c.in_default.ensures), (size_between (codes_of (unpacked c.next.result))).1)

pub overflow_mul-result-2 : goal.overflow_mul-result-2
overflow_mul-result-2 c = omega (arith, c.put_situation-length.ensures.value, (size_between (codes_of (unpacked c.next.result))).1)

pub returns : goal.returns
returns c =
    let a = c.args in
    let room = a.room.now in
    let t = sym c.in_default.ensures in
    let next = c.next.ensures in
    let put = c.put_situation-length.ensures in
    let codes = codes_of (reached a.plan (unpacked a.x) a.event) in
    let fits = record_fits a.plan (unpacked a.x) a.event (length room) t in
    let after = situation.written codes in
    let size = put.value ∙ ap (λ (x : Kept). situation_size (codes_of x)) next ∙ sym (size_is codes fits) in
    let left = put.room_after ∙ ap (λ (x : Kept). laid (take (situation_size (codes_of x)) (situation_bytes (codes_of x))) room) next ∙ ap (λ (bytes : List ℕ). laid bytes room) (bytes_are codes fits) in
    record { value = accepted_told t after (name a.plan (unpacked a.x) a.event) refl size; room_after = accepted_room t after room _ left }
