-- Whatever rooms of six bytes or more a run of calls is handed, once none remain the bytes written are those of the whole key and their slots are counted by its length; and as many rooms as the key has slots are enough. By induction on the rooms.
use Prim.Native.Nat.{ℕ, suc, ◌+◌, ◌-◌, ◌*◌, ◌/◌, ◌≤◌, ◌<◌, min}
use mathlib.Core.Path.{◌≡◌, refl, ap, ◌∙◌}
use mathlib.Core.Bool.{Bool, true, false, cond, ◌&&◌}
use mathlib.Core.List.{List, [], ◌∷◌, ◌++◌, append-nil, append_assoc}
use native.Mathlib.Omega.{arith}
use lib.ListN.{length, take, drop, get_or, length-take, length-drop, take-append-drop}
use lib.Seq.{take_at, drop_at, take-suc, take_all, length-take-le}
use borrow.Author.Tests.{ltb-true, ltb-false}
use Rattle.keylaws.specs.Rules.{Rules, Word}
use Rattle.keylaws.specs.Key.{answers, ◌among◌}
use Rattle.keylaws.specs.Slots.{slot_of, slots}
use Rattle.keylaws.specs.Continuation.{from_start, answers_after, is_continuation}
use Rattle.keylaws.specs.Parts.{Part, part, part_after, written, last_slot, calls, joined, total, remain, Rooms}
use Rattle.keylaws.proofs.Tests.{never}
use Rattle.keylaws.proofs.Among.{among_at}
use Rattle.keylaws.proofs.ExactlyTheAnswers.{sound}
use Rattle.keylaws.proofs.SlotsOfWords.{length_slot, is_slot_of_word, slot_continues}
use Rattle.keylaws.proofs.SlotBytes.{slots_append, slots_one, Short, short_take, length_slots}
use Rattle.keylaws.proofs.AfterContinuation.{short_after, exactly_those_after, after_an_answer, after_the_start}

-- ---- one part: the bytes written, and the last slot among them
module _ (ws : List Word) (room : List ℕ) (short : Short ws) where
  pub part_written : written (part ws room) ≡ slots (take (length room / 6) ws)
  unfolding part
  part_written =
      let e : length (slots (take (length room / 6) ws)) ≡ 6 * min (length room / 6) (length ws)
      = omega (arith, length_slots (take (length room / 6) ws) (short_take (length room / 6) ws short), length-take (length room / 6) ws) in
      take_at _ _ _ e

  part_last : (j : ℕ) → length room / 6 ≡ suc j → j < length ws → last_slot (part ws room) ≡ slot_of (get_or ws j [])
  unfolding part
  part_last j e l =
      let w : Word = get_or ws j [] in
      let n = min (length room / 6) (length ws) in
      let a : length (slots (take j ws)) ≡ 6 * min (length room / 6) (length ws) - 6 = omega (arith, length_slots (take j ws) (short_take j ws short), length-take-le j ws (omega arith)) in
      let r : slots (take (length room / 6) ws) ++ drop (6 * n) room ≡ slots (take j ws) ++ (slot_of w ++ drop (6 * n) room)
      = rw (e, take-suc ws j [] l, slots_append, slots_one, append_assoc) refl in
      let z : take 6 (drop (6 * n - 6) (slots (take (length room / 6) ws) ++ drop (6 * n) room)) ≡ slot_of w
      = rw (r, drop_at _ _ _ a, take_at _ _ 6 (length_slot w (short w (among_at ws j l)))) refl in
      z

module _ (R : Rules) (limit : ℕ) (start : R.Situation) (h5 : limit ≤ 5) where
  -- ---- one call
  module _ (x room : List ℕ) (h6 : 6 ≤ length room) where
    short : Short (answers_after R limit start x)
    short w m = let l = short_after R limit start x w m in omega arith

    -- that leaves more: the call after it goes on with what remains
    module _ (more : (part_after R limit start x room).more ≡ true) where
      full : length room / 6 < length (answers_after R limit start x)
      unfolding part
      full = ltb-true _ _ more

      full_count : (part_after R limit start x room).count ≡ length room / 6
      unfolding part
      full_count = omega (arith, full)

      last_slot_is : last_slot (part_after R limit start x room) ≡ slot_of (get_or (answers_after R limit start x) (length room / 6 - 1) [])
      last_slot_is = part_last (answers_after R limit start x) room short (length room / 6 - 1) (omega arith) (omega (arith, full))

      goes_on : answers_after R limit start (last_slot (part_after R limit start x room)) ≡ drop (length room / 6) (answers_after R limit start x)
      goes_on =
          let e : suc (length room / 6 - 1) ≡ length room / 6 = omega arith in
          rw (last_slot_is, after_an_answer R limit start h5 x (length room / 6 - 1) (omega (arith, full)), e) refl

      pub last_slot_continues : is_continuation R.events limit (last_slot (part_after R limit start x room)) ≡ true
      last_slot_continues =
          let w : Word = get_or (answers_after R limit start x) (length room / 6 - 1) [] in
          let m : w among answers_after R limit start x = among_at (answers_after R limit start x) (length room / 6 - 1) (omega (arith, full)) in
          let a = sound R limit start w ((exactly_those_after R limit start x w).0 m).0 in
          rw last_slot_is (slot_continues R.events limit (slot_of w) (is_slot_of_word R.events limit h5 w a.short a.permitted))

    -- that leaves none: all slots are written
    module _ (none : (part_after R limit start x room).more ≡ false) where
      fits : length (answers_after R limit start x) ≤ length room / 6
      unfolding part
      fits = ltb-false _ _ none

      last_written : written (part_after R limit start x room) ≡ slots (answers_after R limit start x)
      last_written = rw (part_written (answers_after R limit start x) room short, take_all _ _ fits) refl

      last_count : (part_after R limit start x room).count ≡ length (answers_after R limit start x)
      unfolding part
      last_count = omega (arith, fits)

  -- ---- calls after x until none remain
  pub parts_joined : (rooms : List (List ℕ)) (x : List ℕ) → Rooms rooms → remain (calls R limit start x rooms) ≡ false
      → (joined (calls R limit start x rooms) ≡ slots (answers_after R limit start x)) × (total (calls R limit start x rooms) ≡ length (answers_after R limit start x))
  unfolding calls joined total remain
  parts_joined [] x hs h = absurd (never true refl h)
  parts_joined (room ∷ rooms) x hs h = go (λ g. parts_joined rooms (last_slot p) hs.1 g) p.more refl h
    where
      p : Part
      p = part_after R limit start x room

      next : List Part
      next = calls R limit start (last_slot p) rooms

      go : (remain next ≡ false → (joined next ≡ slots (answers_after R limit start (last_slot p))) × (total next ≡ length (answers_after R limit start (last_slot p))))
          → (b : Bool) → p.more ≡ b → b && remain (cond b next []) ≡ false
          → (written p ++ joined (cond b next []) ≡ slots (answers_after R limit start x)) × (p.count + total (cond b next []) ≡ length (answers_after R limit start x))
      go ih true e g =
          let r = ih g in
          let on = goes_on x room hs.0 e in
          let t : total next ≡ length (answers_after R limit start x) - length room / 6 = r.1 ∙ (rw (on, length-drop)) in
          (rw (part_written (answers_after R limit start x) room (short x room hs.0), r.0, on, ← slots_append, take-append-drop), omega (arith, full x room hs.0 e, full_count x room hs.0 e))
      go ih false e g = (rw append-nil (last_written x room hs.0 e), omega (arith, last_count x room hs.0 e))

  -- as many rooms as there are slots, and one at least, are enough
  pub enough_rooms : (rooms : List (List ℕ)) (x : List ℕ) → Rooms rooms → 1 ≤ length rooms → length (answers_after R limit start x) ≤ length rooms → remain (calls R limit start x rooms) ≡ false
  unfolding calls remain
  enough_rooms [] x hs one h = absurd (omega arith)
  enough_rooms (room ∷ rooms) x hs one h = go (λ i j. enough_rooms rooms (last_slot p) hs.1 i j) p.more refl
    where
      p : Part
      p = part_after R limit start x room

      next : List Part
      next = calls R limit start (last_slot p) rooms

      go : (1 ≤ length rooms → length (answers_after R limit start (last_slot p)) ≤ length rooms → remain next ≡ false) → (b : Bool) → p.more ≡ b → b && remain (cond b next []) ≡ false
      go ih true e =
          let t : length (answers_after R limit start (last_slot p)) ≡ length (answers_after R limit start x) - length room / 6 = rw (goes_on x room hs.0 e, length-drop) in
          let f = full x room hs.0 e in
          ih (omega (arith, hs.0)) (omega (arith, hs.0))
      go ih false e = refl

  -- ---- from the start: the whole key
  pub whole_key : (rooms : List (List ℕ)) → Rooms rooms → remain (calls R limit start from_start rooms) ≡ false
      → (joined (calls R limit start from_start rooms) ≡ slots (answers R limit start)) × (total (calls R limit start from_start rooms) ≡ length (answers R limit start))
  whole_key rooms hs h = let r = parts_joined rooms from_start hs h in (r.0 ∙ ap slots (after_the_start R limit start), r.1 ∙ ap length (after_the_start R limit start))
