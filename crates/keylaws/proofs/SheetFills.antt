-- Nothing here has to be believed. Slots written one by one into a room leave the part of the key that the definition of a part says. By induction on the words.
use Prim.Native.Nat.{ℕ, suc, ◌+◌, ◌*◌, ◌/◌, ◌≤◌, ◌<◌, min}
use mathlib.Core.Path.{◌≡◌, refl, ◌∙◌}
use mathlib.Core.Bool.{true, false}
use mathlib.Core.List.Memᴰ.{head as here}
use mathlib.Core.List.Memᴰ.{tail as later}
use mathlib.Core.List.{List, [], ◌∷◌, ◌++◌, map, flatten, append_assoc}
use native.Mathlib.Omega.{arith}
use native.Mathlib.Decide.{dec_le}
use lib.ListN.{length, drop, length-append, length-drop}
use lib.Seq.{drop-drop, take_at, drop-append-add, take-nil}
use lib.Dec.{leb-suc-suc}
use borrow.Author.Tests.{le-leb, lt-leb, lt-ltb, le-ltb}
use Rattle.keylaws.specs.Rules.{Word}
use Rattle.keylaws.specs.Slots.{slot_of, slots}
use Rattle.keylaws.specs.Parts.{Part, handed, part}
use Rattle.keylaws.specs.Sheet.{laid, emit, put}
use Rattle.keylaws.proofs.SlotsOfWords.{length_slot}
use Rattle.keylaws.proofs.SlotBytes.{Short}
use Rattle.keylaws.proofs.SheetSteps.{put_full}

-- ---- none, and one slot more
put_nil : (p : Part) → put p [] ≡ p
unfolding put
put_nil p = refl

put_cons : (p : Part) (x : List ℕ) (xs : List (List ℕ)) → put p (x ∷ xs) ≡ put (emit p x) xs
unfolding put
put_cons p x xs = refl

-- at its place in a room that holds a before it
laid_at : (a b : List ℕ) (n : ℕ) (x : List ℕ) → length a ≡ 6 * n → laid (a ++ b) n x ≡ (a ++ x) ++ drop 6 b
unfolding laid
laid_at a b n x h = rw (← h, take_at a b _ refl, drop-append-add, append_assoc) refl

emit_fits : (l : List ℕ) (n : ℕ) (x : List ℕ) → 6 * n + 6 ≤ length l → emit (handed l n false) x ≡ handed (laid l n x) (n + 1) false
unfolding emit
emit_fits l n x h = rw (le-leb _ _ h) refl

emit_none : (l : List ℕ) (n : ℕ) (x : List ℕ) → length l < 6 * n + 6 → emit (handed l n false) x ≡ handed l n true
unfolding emit
emit_none l n x h = rw (lt-leb _ _ h) refl

-- ---- a part: of no words, in a room under six bytes, and of a word and more
part_empty : (b : List ℕ) → part [] b ≡ handed b 0 false
unfolding part slots flatten
part_empty b =
    let e : min (length b / 6) 0 ≡ 0 = omega arith in
    let z : 0 ≤ length b / 6 = omega arith in
    rw (take-nil, e, le-ltb _ _ z) refl

part_none : (w : Word) (ws : List Word) (b : List ℕ) → length b < 6 → part (w ∷ ws) b ≡ handed b 0 true
unfolding part slots flatten
part_none w ws b h =
    let q : length b / 6 ≡ 0 = omega arith in
    let e : min 0 (suc (length ws)) ≡ 0 = omega arith in
    let z : 0 < suc (length ws) = omega arith in
    rw (q, e, lt-ltb _ _ z) refl

part_more : (w : Word) (ws : List Word) (b : List ℕ) → 6 ≤ length b → part (w ∷ ws) b ≡ handed (slot_of w ++ (part ws (drop 6 b)).room) (1 + (part ws (drop 6 b)).count) (part ws (drop 6 b)).more
unfolding part slots flatten
part_more w ws b h =
    let q : length b / 6 ≡ suc (length (drop 6 b) / 6) = omega (arith, length-drop 6 b) in
    let e : min (suc (length (drop 6 b) / 6)) (suc (length ws)) ≡ 1 + min (length (drop 6 b) / 6) (length ws) = omega arith in
    let f : 6 * (1 + min (length (drop 6 b) / 6) (length ws)) ≡ 6 + 6 * min (length (drop 6 b) / 6) (length ws) = omega arith in
    rw (q, e, f, ← drop-drop, append_assoc, leb-suc-suc) refl

-- ---- all of them, after n slots a
put_fills : (ws : List Word) (a b : List ℕ) (n : ℕ) → Short ws → length a ≡ 6 * n
    → put (handed (a ++ b) n false) (map slot_of ws) ≡ handed (a ++ (part ws b).room) (n + (part ws b).count) (part ws b).more
put_fills [] a b n short h = let e : n + 0 ≡ n = omega arith in rw (put_nil, part_empty, e) refl
put_fills (w ∷ ws) a b n short h = go (put_fills ws (a ++ slot_of w) (drop 6 b) (n + 1) (λ v m. short v (later m))) (dec_le 6 (length b))
  where
    c : Part
    c = part ws (drop 6 b)

    go : (length (a ++ slot_of w) ≡ 6 * (n + 1) → put (handed ((a ++ slot_of w) ++ drop 6 b) (n + 1) false) (map slot_of ws) ≡ handed ((a ++ slot_of w) ++ c.room) (n + 1 + c.count) c.more) → Dec (6 ≤ length b)
        → put (handed (a ++ b) n false) (slot_of w ∷ map slot_of ws) ≡ handed (a ++ (part (w ∷ ws) b).room) (n + (part (w ∷ ws) b).count) (part (w ∷ ws) b).more
    go ih (yes r) =
        let f : 6 * n + 6 ≤ length (a ++ b) = omega (arith, length-append a b) in
        let t : n + (1 + c.count) ≡ n + 1 + c.count = omega arith in
        let k : length (a ++ slot_of w) ≡ 6 * (n + 1) = omega (arith, length-append a (slot_of w), length_slot w (short w (here refl))) in
        rw (put_cons, emit_fits (a ++ b) n (slot_of w) f, laid_at a b n (slot_of w) h, ih k, part_more w ws b r, t, append_assoc) refl
    go ih (no r) =
        let f : length (a ++ b) < 6 * n + 6 = omega (arith, length-append a b) in
        let l : length b < 6 = omega arith in
        let t : n + 0 ≡ n = omega arith in
        rw (put_cons, emit_none (a ++ b) n (slot_of w) f, put_full (map slot_of ws) (a ++ b) n, part_none w ws b l, t) refl

pub put_part : (ws : List Word) (room : List ℕ) → Short ws → put (handed room 0 false) (map slot_of ws) ≡ part ws room
put_part ws room short = let e : 0 + (part ws room).count ≡ (part ws room).count = omega arith in put_fills ws [] room 0 short refl ∙ (rw e refl)
