-- Text over room: written piece by piece it is the text in one. From the laws of lists.
use Prim.Native.Nat.{ℕ, ◌+◌, ◌-◌, ◌≤◌, ◌<◌}
use mathlib.Core.Path.{◌≡◌, refl, sym, ap, ◌∙◌}
use mathlib.Core.List.{List, [], ◌∷◌, ◌++◌, append_assoc, append-nil}
use native.Mathlib.Omega.{arith}
use native.Mathlib.Nat.{add-zero, zero-add}
use native.Mathlib.Numerals.{add-one}
use lib.ListN.{length, take, drop, set, length-append, length-take, length-drop, take-append-drop, drop_of_length-le}
use lib.Seq.{take-length, set_split, take_at, drop-append-add, drop-drop, take_all}
use borrow.Author.Tests.{le-leb, lt-leb}
use Rattle.keytext.specs.Room.{over, written, length_written}

pub over_none : (at : ℕ) (room : List ℕ) → over at [] room ≡ room
unfolding over
over_none at room = rw add-zero (take-append-drop at room)

pub over_one : (at x : ℕ) (room : List ℕ) → at < length room → set room at x ≡ over at (x ∷ []) room
unfolding over
over_one at x room h = rw add-one (set_split room at x h)

pub length_over : (at : ℕ) (text room : List ℕ) → at + length text ≤ length room → length (over at text room) ≡ length room
unfolding over
length_over at text room h = simp (length-append, length-take, length-drop) (omega arith)

pub over_over : (at : ℕ) (a b room : List ℕ) → at + length a ≤ length room → over (at + length a) b (over at a room) ≡ over at (a ++ b) room
unfolding over
over_over at a b room h =
    let front = take at room ++ a in
    let rest = drop (at + length a) room in
    let here : length front ≡ at + length a = simp (length-append, length-take) (omega arith) in
    let sum : at + length a + length b ≡ at + length (a ++ b) = simp length-append (omega arith) in
    let kept : drop (at + length a + length b) (front ++ rest) ≡ drop (at + length (a ++ b)) room =
    ap (λ (n : ℕ). drop (n + length b) (front ++ rest)) (sym here) ∙ drop-append-add front rest (length b) ∙ drop-drop (length b) (at + length a) room ∙ ap (λ (n : ℕ). drop n room) sum in
    rw (← append_assoc (take at room) a rest, take_at front rest (at + length a) here, kept) (simp append_assoc)

-- after a text that ends at `last`, one byte more
pub then_one : (at last x : ℕ) (a now room : List ℕ) → last ≡ at + length a → now ≡ over at a room → at + length a < length room → set now last x ≡ over at (a ++ (x ∷ [])) room
then_one at last x a now room e f h =
    rw (e, f) (over_one (at + length a) x (over at a room) (rw (length_over at a room (omega arith)) h) ∙ over_over at a (x ∷ []) room (omega arith))

-- two bytes, one after the other
pub over_two : (at x y : ℕ) (room : List ℕ) → at + 1 < length room → set (set room at x) (at + 1) y ≡ over at (x ∷ y ∷ []) room
over_two at x y room h = then_one at (at + 1) y (x ∷ []) (set room at x) room refl (over_one at x room (omega arith)) h

-- after a text that ends at `last`, a text more
pub then_text : (at last : ℕ) (a b now room : List ℕ) → last ≡ at + length a → now ≡ over at a room → at + length a ≤ length room → over last b now ≡ over at (a ++ b) room
then_text at last a b now room e f h = rw (e, f) (over_over at a b room h)

-- a text copied to the front
pub copied : (text room : List ℕ) → take (length text) text ++ drop (length text) room ≡ over 0 text room
unfolding over
copied text room = rw (take-length text, zero-add)

in_part : (n : ℕ) (b first : List ℕ) → take n first ++ over 0 b (drop n first) ≡ over n b first
unfolding over
in_part n b first = rw (zero-add, drop-drop)

-- after a text at the front, another at the front of the part that follows it
pub then_in_part : (n : ℕ) (a b first part room : List ℕ) → n ≡ length a → first ≡ over 0 a room → length a ≤ length room → part ≡ over 0 b (take (length first - n) (drop n first))
    → take n first ++ (part ++ drop (length first - n) (drop n first)) ≡ over 0 (a ++ b) room
then_in_part n a b first part room e f h p =
    let none : drop (length first - n) (drop n first) ≡ [] = drop_of_length-le (drop n first) {i = length first - n} (omega (arith, length-drop n first)) in
    let all : take (length first - n) (drop n first) ≡ drop n first = take_all (length first - n) (drop n first) (omega (arith, length-drop n first)) in
    rw (p, none, all, append-nil) (in_part n b first ∙ then_text 0 n a b first room (omega arith) f (omega arith))

-- where the room keeps its length, the text has no more
pub within : (text now room : List ℕ) → now ≡ over 0 text room → length now ≡ length room → length text ≤ length now
unfolding over
within text now room e h = omega (arith, simp (length-append, length-drop) at (ap length e))

-- ---- what a call leaves and answers
pub is_written : (needed : ℕ) (text room : List ℕ) → needed ≤ length room → (length_written needed text room ≡ length text) × (written needed text room ≡ over 0 text room)
unfolding written length_written
is_written needed text room h = rw (le-leb needed (length room) h) (refl, refl)

pub too_short : (needed : ℕ) (text room : List ℕ) → length room < needed → (0 ≡ length_written needed text room) × ((room ≡ written needed text room) × (0 ≤ length room))
unfolding written length_written
too_short needed text room h = rw (lt-leb needed (length room) h) (refl, (refl, omega arith))

pub long_enough : (needed told : ℕ) (text now room : List ℕ) → needed ≤ length room → length text ≤ length room → told ≡ length text → now ≡ over 0 text room
    → (told ≡ length_written needed text room) × ((now ≡ written needed text room) × (told ≤ length now))
unfolding written length_written
long_enough needed told text now room h fits e f =
    let kept : length now ≡ length room = ap length f ∙ length_over 0 text room (omega arith) in
    rw (le-leb needed (length room) h) (e, (f, omega arith))
