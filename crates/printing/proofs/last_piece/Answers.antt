-- The lines at the front, and the total into the part after them, which has the bytes of the longest.
use Rattle.std.proofs.Common.{◌≡◌, ◌+◌, ◌-◌, ◌/◌, ◌%◌, ◌^◌, ◌≤◌, ℕ, List, length, take, drop, refl, ◌∙◌, arith, length-append, length-drop, length-take}
use Rattle.keytext.specs.Text.{lines, words, total, longest_lines, longest_total}
use Rattle.keytext.proofs.RoomLaws.{is_written, then_in_part}
use Rattle.printing.proofs.last_piece.Goals as goal

-- what the lines leave of the room has the bytes of the longest total
left : (at n : ℕ) (lines first room : List ℕ) → at ≡ length lines → length first ≡ length room → length lines + n ≤ length room → n ≤ length (take (length first - at) (drop at first))
left at n lines first room e kept h = omega (arith, length-take (length first - at) (drop at first), length-drop at first)

pub unwrap-requires : goal.unwrap-requires
unwrap-requires c =
    let slots = c.args.slots.now in
    let w = c.write_lines in
    let i = is_written (longest_lines slots) (lines (words slots)) c.args.room.now c.requires.0 in
    let at = (rw c.unwrap-at.ensures at w.ensures.told) ∙ i.0 in
    c.write_total.ensures.fits.1 (left c.unwrap-at.result 27 (lines (words slots)) w.new.room c.args.room.now at w.auto.room c.requires.1)

pub returns : goal.returns
returns c =
    let slots = c.args.slots.now in
    let room = c.args.room.now in
    let w = c.write_lines in
    let u = c.unwrap-at in
    let t = c.write_total in
    let first = w.new.room in
    let part = take (length first - u.result) (drop u.result first) in
    let i = is_written (longest_lines slots) (lines (words slots)) room c.requires.0 in
    let at : u.result ≡ length (lines (words slots)) = (rw u.ensures at w.ensures.told) ∙ i.0 in
    let long : longest_total ≤ length part = left u.result 27 (lines (words slots)) first room at w.auto.room c.requires.1 in
    let text = total ((c.args.total + length slots / 6) % 2 ^ 64) in
    let j = is_written longest_total text part long in
    let put = then_in_part u.result (lines (words slots)) text first t.new.room room at (w.ensures.room ∙ i.1) (omega (arith, c.requires.1)) (t.ensures.room ∙ j.1) in
    record { told = omega (arith, at, (rw c.unwrap.ensures at t.ensures.told) ∙ j.0, length-append (lines (words slots)) text); room = put; next = refl }
