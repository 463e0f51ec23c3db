-- The lines of slots, one by one, and those of words; the slots of words give the lines of the words. From the definitions and the laws of slots.
use Prim.Native.Nat.{ℕ, zero, suc, ◌+◌, ◌*◌, ◌/◌, ◌≤◌, ◌<◌}
use mathlib.Core.Path.{◌≡◌, refl, sym, ap, ◌∙◌}
use mathlib.Core.List.Memᴰ.{head as here}
use mathlib.Core.List.Memᴰ.{tail as later}
use mathlib.Core.List.{List, [], ◌∷◌, ◌++◌, append_assoc, append-nil, map, map-append, flatten}
use native.Mathlib.Numerals.{add-one}
use Rattle.std.specs.Simd.{first_chunks}
use native.Mathlib.Omega.{arith}
use native.Mathlib.Nat.{div-eq_of_lt}
use lib.ListN.{length, get_or, take, drop, length-append, length-drop}
use lib.Seq.{take_at, drop_at, take-suc}
use Rattle.keylaws.specs.Rules.{Word}
use Rattle.keylaws.specs.Key.{◌among◌}
use Rattle.keylaws.specs.Slots.{slot_of, slots, word_of}
use Rattle.keylaws.proofs.SlotsOfWords.{length_slot, word_of_slot}
use Rattle.keylaws.proofs.SlotBytes.{Short}
use Rattle.keytext.specs.Text.{line, lines, words_in, words}
use Rattle.keytext.proofs.LineLaws.{line_short}
use Rattle.keytext.proofs.WordLaws.{Bytes}

words_none : (x : List ℕ) → length x < 6 → words x ≡ []
unfolding words words_in
words_none x h = rw (div-eq_of_lt h)

words_more : (x : List ℕ) → 6 ≤ length x → words x ≡ word_of (take 6 x) ∷ words (drop 6 x)
unfolding words words_in
words_more x h =
    let one_more : length x / 6 ≡ suc (length (drop 6 x) / 6) = rw length-drop (omega arith) in
    rw one_more

pub lines_none : (x : List ℕ) → length x < 6 → lines (words x) ≡ []
unfolding lines flatten
lines_none x h = ap lines (words_none x h)

pub lines_more : (x w : List ℕ) → 6 ≤ length x → w ≡ word_of (take 6 x) → lines (words x) ≡ line w ++ lines (words (drop 6 x))
unfolding lines flatten
lines_more x w h e = ap lines (words_more x h) ∙ rw e

pub lines_of_slots : (ws : List Word) → Short ws → lines (words (slots ws)) ≡ lines ws
unfolding lines slots flatten
lines_of_slots [] h = lines_none [] (omega arith)
lines_of_slots (w ∷ ws) h =
    let six = length_slot w (h w (here refl)) in
    let first : w ≡ word_of (take 6 (slot_of w ++ slots ws)) = rw (take_at (slot_of w) (slots ws) 6 six) (sym (word_of_slot w)) in
    lines_more (slot_of w ++ slots ws) w (omega (arith, six, length-append (slot_of w) (slots ws))) first
    ∙ rw (drop_at (slot_of w) (slots ws) 6 six, lines_of_slots ws (λ v m. h v (later m)))

-- ---- lines of words
pub lines_append : (vs ws : List Word) → lines (vs ++ ws) ≡ lines vs ++ lines ws
unfolding lines flatten
lines_append [] ws = refl
lines_append (v ∷ vs) ws = rw (lines_append vs ws) (sym (append_assoc (line v) (lines vs) (lines ws)))

-- ---- slots one after the other, six bytes each
words_in_chunks : (k : ℕ) (x : List ℕ) → words_in k x ≡ map word_of (first_chunks 6 k x)
unfolding words_in
words_in_chunks zero x = refl
words_in_chunks (suc k) x = rw (words_in_chunks k (drop 6 x))

pub words_of_chunks : (x : List ℕ) → words x ≡ map word_of (first_chunks 6 (length x / 6) x)
unfolding words
words_of_chunks x = words_in_chunks (length x / 6) x

-- the lines of the first of them, and one more
pub lines_one_more : (xs : List (List ℕ)) (i : ℕ) → i < length xs → lines (map word_of (take (i + 1) xs)) ≡ lines (map word_of (take i xs)) ++ line (word_of (get_or xs i []))
unfolding lines flatten
lines_one_more xs i h = rw (add-one, take-suc xs i [] h, map-append, lines_append, append-nil)

-- at most five places, each a byte
pub lines_short : (ws : List Word) → ((w : Word) → w among ws → (length w ≤ 5) × Bytes w) → length (lines ws) ≤ 20 * length ws
unfolding lines flatten
lines_short [] h = omega arith
lines_short (w ∷ ws) h =
    let one = h w (here refl) in
    omega (arith, length-append (line w) (lines ws), line_short w one.1 one.0, lines_short ws (λ v m. h v (later m)))
