-- What the call for a part of the key leaves (proofs/FromKey.antt), and the definition by the same cases.
use Rattle.std.specs.Prelude.{Some}
use Rattle.std.proofs.Common.{◌≡◌, ℕ, ◌+◌, ◌*◌, ◌/◌, ◌≤◌, false, true, eqb, ltb, List, ◌++◌, length, take, sym, refl, ap, ◌∙◌, ap₂, arith, eq-eqb, ne_eqb, le-leb}
use borrow.Author.Tests.{lt-leb}
use Rattle.words.specs.Words.{◌or◌}
use Rattle.paper.specs.Read.{read_of}
use Rattle.keys.specs.Calls.{fetched}
use Rattle.block.specs.Refusals.{number}
use Rattle.block.specs.declared.refused.Refusal.{Refusal}
use Rattle.block.proofs.Told.{not_accepted}
use Rattle.slots.specs.declared.room.Part.{Part}
use Rattle.keytext.specs.Text.{total, refused, longest_refused}
use Rattle.keytext.specs.Room.{over}
use Rattle.keytext.proofs.RoomLaws.{is_written}
use Rattle.printing.specs.Pieces.{Progress, progress_of, refusal, left, counted, fitting}
use Rattle.printing.proofs.PieceSteps.{going, refusal_given, last_given, lines_given}
use Rattle.printing.proofs.FromKey.{Fetched, left_by, Called, refusal_is, slots_long, slots_there, lines_are, not_all, count_fits, last_is, all, count_all, lines_all, lines_long}
use Rattle.printing.proofs.piece_after.Goals as goal

-- a room that goes on has a line and a total
fits : (q : List ℕ) (p : Progress) (room : List ℕ) → p.ended or ltb (length room) 47 ≡ false → (1 ≤ fitting (length room)) × (20 * fitting (length room) + 27 ≤ length room)
fits q p room goes = let long = (going q p (length room) goes).1 in (omega arith, omega arith)

-- the call's slots have room for the lines that fit
called : (q : List ℕ) (p : Progress) (slots room now : List ℕ) (r : Fetched) → p.ended or ltb (length room) 47 ≡ false → length slots ≡ 6 * fitting (length room)
    → left_by r now ≡ fetched (read_of q) p.after slots
    → Called q p (fitting (length room)) slots now r
called q p slots room now r goes long leaves = record { some = (fits q p room goes).0; long = long; leaves = leaves }

none_refused : (q : List ℕ) (p : Progress) (n : ℕ) (slots now : List ℕ) (r : Fetched) → Called q p n slots now r → r.refusal ≡ 0 → eqb (refusal q p) 0 ≡ true
none_refused q p n slots now r d h = eq-eqb _ 0 (sym (refusal_is d) ∙ h)

-- what the call tells
abbrev handed_on : Part → Fetched
handed_on part = record { refusal = 0; more = part.more; count = part.count }

abbrev refused_with : Refusal → Fetched
refused_with r = record { refusal = number r; more = false; count = 0 }

pub returns-in-Err : goal.returns-in-Err
returns-in-Err c =
    let q = c.args.question.now in
    let p = progress_of (Some c.args.at) in
    let room = c.args.room.now in
    let d = called q p c.args.slots.now room c.key.new.room (refused_with c.in-Err.refusal) c.requires.0 c.requires.1 c.in-Err.ensures in
    let f = fits q p room c.requires.0 in
    let w = c.write_refused in
    let is = refusal_is d in
    let e : eqb (refusal q p) 0 ≡ false = rw (← is) (ne_eqb _ 0 (not_accepted _)) in
    let i = is_written longest_refused (refused c.into.result) room (omega (arith, f.1)) in
    rw (refusal_given q p (length room) c.requires.0 e)
    record {
      told = (rw c.unwrap-length.ensures at w.ensures.told) ∙ i.0 ∙ ap (λ (n : ℕ). length (refused n)) (c.into.ensures ∙ is);
      room = w.ensures.room ∙ i.1 ∙ ap (λ (n : ℕ). over 0 (refused n) room) (c.into.ensures ∙ is);
      next = refl;
    }

pub overflow_mul-end : goal.overflow_mul-end
overflow_mul-end c =
    let q = c.args.question.now in
    let p = progress_of (Some c.args.at) in
    let room = c.args.room.now in
    let d = called q p c.args.slots.now room c.key.new.room (handed_on c.in-Ok.part) c.requires.0 c.requires.1 c.in-Ok.ensures in
    record { fits = omega (arith, slots_long d refl, slots_there d refl) }

pub slice_bounds-lines_piece-end : goal.slice_bounds-lines_piece-end
slice_bounds-lines_piece-end c =
    let q = c.args.question.now in
    let p = progress_of (Some c.args.at) in
    let room = c.args.room.now in
    let d = called q p c.args.slots.now room c.key.new.room (handed_on c.in-Ok.part) c.requires.0 c.requires.1 c.in-Ok.ensures in
    slots_there d refl

pub slice_bounds-lines_piece-end-then-part : goal.slice_bounds-lines_piece-end-then-part
slice_bounds-lines_piece-end-then-part c =
    let q = c.args.question.now in
    let p = progress_of (Some c.args.at) in
    let room = c.args.room.now in
    let d = called q p c.args.slots.now room c.key.new.room (handed_on c.in-Ok.part) c.requires.0 c.requires.1 c.in-Ok.ensures in
    sym (slots_long d refl)

pub lines_piece-requires : goal.lines_piece-requires
lines_piece-requires c =
    let q = c.args.question.now in
    let p = progress_of (Some c.args.at) in
    let room = c.args.room.now in
    let d = called q p c.args.slots.now room c.key.new.room (handed_on c.in-Ok.part) c.requires.0 c.requires.1 c.in-Ok.ensures in
    let f = fits c.args.question.now (progress_of (Some c.args.at)) c.args.room.now c.requires.0 in
    let yes = refl in
    let n = count_fits d yes c.if-part.true in
    (omega (arith, f.0, slots_long d yes), omega (arith, f.1, slots_long d yes))

pub returns-then-part : goal.returns-then-part
returns-then-part c =
    let q = c.args.question.now in
    let p = progress_of (Some c.args.at) in
    let room = c.args.room.now in
    let d = called q p c.args.slots.now room c.key.new.room (handed_on c.in-Ok.part) c.requires.0 c.requires.1 c.in-Ok.ensures in
    let there = take (6 * c.in-Ok.part.count) c.key.new.room in
    let yes = refl in
    let more = c.if-part.true in
    let l = c.lines_piece in
    let count : length there / 6 ≡ fitting (length room) = omega (arith, count_fits d yes more, slots_long d yes) in
    rw (lines_given q p (length room) c.requires.0 (none_refused _ _ _ _ _ _ d yes) (lt-leb _ _ (not_all d yes more)))
    record {
      told = l.ensures.told ∙ ap length (lines_are d yes);
      room = l.ensures.room ∙ ap (λ (t : List ℕ). over 0 t room) (lines_are d yes);
      next = l.ensures.next ∙ ap₂ (λ (x : List ℕ) (n : ℕ). record { after = x; total = counted p n; ended = false }) (last_is d yes more) count;
    }

pub slice_bounds-last_piece-end : goal.slice_bounds-last_piece-end
slice_bounds-last_piece-end c =
    let q = c.args.question.now in
    let p = progress_of (Some c.args.at) in
    let room = c.args.room.now in
    let d = called q p c.args.slots.now room c.key.new.room (handed_on c.in-Ok.part) c.requires.0 c.requires.1 c.in-Ok.ensures in
    slots_there d refl

pub slice_bounds-last_piece-end-2 : goal.slice_bounds-last_piece-end-2
slice_bounds-last_piece-end-2 c =
    let q = c.args.question.now in
    let p = progress_of (Some c.args.at) in
    let room = c.args.room.now in
    let d = called q p c.args.slots.now room c.key.new.room (handed_on c.in-Ok.part) c.requires.0 c.requires.1 c.in-Ok.ensures in
    sym (slots_long d refl)

pub last_piece-requires : goal.last_piece-requires
last_piece-requires c =
    let q = c.args.question.now in
    let p = progress_of (Some c.args.at) in
    let room = c.args.room.now in
    let d = called q p c.args.slots.now room c.key.new.room (handed_on c.in-Ok.part) c.requires.0 c.requires.1 c.in-Ok.ensures in
    let f = fits c.args.question.now (progress_of (Some c.args.at)) c.args.room.now c.requires.0 in
    let yes = refl in
    let none = c.if-part.false in
    (omega (arith, f.1, slots_long d yes, count_all d yes none, all d yes none), omega (arith, f.1, lines_long d yes none))

pub returns : goal.returns
returns c =
    let q = c.args.question.now in
    let p = progress_of (Some c.args.at) in
    let room = c.args.room.now in
    let d = called q p c.args.slots.now room c.key.new.room (handed_on c.in-Ok.part) c.requires.0 c.requires.1 c.in-Ok.ensures in
    let there = take (6 * c.in-Ok.part.count) c.key.new.room in
    let yes = refl in
    let none = c.if-part.false in
    let l = c.last_piece in
    let count : length there / 6 ≡ length (left q p) = omega (arith, count_all d yes none, slots_long d yes) in
    let text = ap₂ (λ (t : List ℕ) (n : ℕ). t ++ total (counted p n)) (lines_all d yes none) count in
    rw (last_given q p (length room) c.requires.0 (none_refused _ _ _ _ _ _ d yes) (le-leb _ _ (all d yes none)))
    record {
      told = l.ensures.told ∙ ap length text;
      room = l.ensures.room ∙ ap (λ (t : List ℕ). over 0 t room) text;
      next = l.ensures.next;
    }
