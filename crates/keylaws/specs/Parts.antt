-- A key is fetched in parts, each by a call with lent room.
use Rattle.std.specs.Prelude.{ℕ, ◌+◌, ◌-◌, ◌*◌, ◌/◌, ◌≤◌, min, Bool, true, cond, ◌&&◌, List, [], ◌∷◌, ◌++◌, length, take, drop, ltb}
use Rattle.keylaws.specs.Rules.{Rules, Word}
use Rattle.keylaws.specs.Slots.{slots}
use Rattle.keylaws.specs.Continuation.{answers_after}

-- what a call leaves: the room's bytes, how many slots were written, and whether more remain
pub record Part : Type 0 where
  pub room : List ℕ
  pub count : ℕ
  pub more : Bool

abbrev pub handed : List ℕ → ℕ → Bool → Part
handed room count more = record { room = room; count = count; more = more }

-- "the call returns how many were written, as many as fit or remain, and whether more remain. Bytes after them keep their values."
unfoldable pub part : List Word → List ℕ → Part
part ws room =
    let fit = length room / 6 in
    let count = min fit (length ws) in
    handed (slots (take fit ws) ++ drop (6 * count) room) count (ltb fit (length ws))

abbrev pub part_after : (R : Rules) → ℕ → R.Situation → List ℕ → List ℕ → Part
part_after R limit start x room = part (answers_after R limit start x) room

-- the bytes that a call wrote, and the last slot among them
abbrev pub written : Part → List ℕ
written p = take (6 * p.count) p.room

abbrev pub last_slot : Part → List ℕ
last_slot p = take 6 (drop (6 * p.count - 6) p.room)

-- calls with these rooms, the first after x, each other after the last slot of the one before, until none remain
unfoldable pub calls : (R : Rules) → ℕ → R.Situation → List ℕ → List (List ℕ) → List Part
calls R limit start x [] = []
calls R limit start x (room ∷ rooms) =
    let p = part_after R limit start x room in
    p ∷ cond p.more (calls R limit start (last_slot p) rooms) []

-- their bytes joined, their slots counted, and whether more remain (no call has said that none do)
unfoldable pub joined : List Part → List ℕ
joined [] = []
joined (p ∷ ps) = written p ++ joined ps

unfoldable pub total : List Part → ℕ
total [] = 0
total (p ∷ ps) = p.count + total ps

unfoldable pub remain : List Part → Bool
remain [] = true
remain (p ∷ ps) = p.more && remain ps

-- each room has six bytes or more
abbrev pub Rooms : List (List ℕ) → Type 0
Rooms [] = Unit {0}
Rooms (room ∷ rooms) = (6 ≤ length room) × Rooms rooms
