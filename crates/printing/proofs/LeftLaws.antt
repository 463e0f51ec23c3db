-- What is left of an accepted question's key after any continuation: its slots and lines, and where a piece of it leaves the rest. From the laws of keys.
use Rattle.std.proofs.Common.{◌≡◌, ℕ, suc, ◌-◌, ◌*◌, ◌<◌, ◌≤◌, Bool, true, false, ltb, List, [], ◌++◌, length, get_or, take, drop, refl, ap, ◌∙◌, arith, length-take-le, take-suc, drop_at, ltb-false, ltb-true}
use lib.ListN.{get_or-eq_default}
use Rattle.keylaws.specs.Rules.{Word}
use Rattle.keylaws.specs.Key.{Answer, Permitted, ◌among◌}
use Rattle.keylaws.specs.Slots.{slot_of, slots}
use Rattle.keylaws.specs.Continuation.{is_continuation, answers_after}
use Rattle.keylaws.proofs.Among.{among_at}
use Rattle.keylaws.proofs.ExactlyTheAnswers.{sound}
use Rattle.keylaws.proofs.SlotsOfWords.{is_slot_of_word, slot_continues}
use Rattle.keylaws.proofs.SlotBytes.{slots_append, slots_one, Short, short_take, length_slots}
use Rattle.keylaws.proofs.AfterContinuation.{exactly_those_after, after_an_answer}
use Rattle.keytext.specs.Text.{lines}
use Rattle.keytext.proofs.LinesOfSlots.{lines_short}
use Rattle.keytext.proofs.WordLaws.{Bytes}
use Rattle.keys.specs.Key.{Accepted, question_in, rules}
use Rattle.keys.proofs.Accepted.{bounded}
use Rattle.printing.specs.Pieces.{Progress, left}

permitted_bytes : (n : ℕ) (w : Word) → n ≤ 12 → Permitted n w → Bytes w
permitted_bytes n w h p i = go (ltb i (length w)) refl
  where
    go : (b : Bool) → ltb i (length w) ≡ b → get_or w i 0 < 256
    go true e = omega (arith, (p i (ltb-true i (length w) e)).1)
    go false e = omega (arith, get_or-eq_default w 0 (ltb-false i (length w) e))

-- the last of so many slots
pub last_slot_of : (ws : List Word) (n : ℕ) → Short ws → 1 ≤ n → n ≤ length ws → drop (length (slots (take n ws)) - 6) (slots (take n ws)) ≡ slot_of (get_or ws (n - 1) [])
last_slot_of ws n short one h =
    let j = n - 1 in
    let e : n ≡ suc j = omega arith in
    let before : length (slots (take j ws)) ≡ length (slots (take n ws)) - 6 =
    omega (arith, length_slots (take j ws) (short_take j ws short), length_slots (take n ws) (short_take n ws short), length-take-le j ws (omega arith), length-take-le n ws h) in
    let split : slots (take n ws) ≡ slots (take j ws) ++ slot_of (get_or ws j []) =
    ap (λ (k : ℕ). slots (take k ws)) e ∙ rw (take-suc ws j [] (omega arith), slots_append, slots_one) in
    ap (drop (length (slots (take n ws)) - 6)) split ∙ drop_at (slots (take j ws)) (slot_of (get_or ws j [])) _ before

module _ (bytes : List ℕ) (ok : Accepted bytes) (progress : Progress) where
  answer : (w : Word) → w among left bytes progress → Answer (rules (question_in bytes)) (question_in bytes).length (question_in bytes).situation w
  answer w m = sound _ _ _ w ((exactly_those_after _ _ _ progress.after w).0 m).0

  places : (w : Word) → w among left bytes progress → (length w ≤ 5) × Bytes w
  places w m =
      let a = answer w m in
      let b = bounded bytes ok in
      (omega (arith, a.short, b.2), permitted_bytes _ w b.0 a.permitted)

  pub left_short : Short (left bytes progress)
  left_short w m = (places w m).0

  -- a line has at most 20 bytes
  pub lines_fit : length (lines (left bytes progress)) ≤ 20 * length (left bytes progress)
  lines_fit = lines_short (left bytes progress) places

  -- after one that has its line
  module _ (n : ℕ) (one : 1 ≤ n) (h : n < length (left bytes progress)) where
    pub goes_on : answers_after (rules (question_in bytes)) (question_in bytes).length (question_in bytes).situation (slot_of (get_or (left bytes progress) (n - 1) [])) ≡ drop n (left bytes progress)
    goes_on =
        let e : suc (n - 1) ≡ n = omega arith in
        after_an_answer _ _ _ (bounded bytes ok).2 progress.after (n - 1) (omega arith) ∙ ap (λ (k : ℕ). drop k (left bytes progress)) e

    pub continues : is_continuation (rules (question_in bytes)).events (question_in bytes).length (slot_of (get_or (left bytes progress) (n - 1) [])) ≡ true
    continues =
        let w : Word = get_or (left bytes progress) (n - 1) [] in
        let a = answer w (among_at (left bytes progress) (n - 1) (omega arith)) in
        slot_continues _ _ (slot_of w) (is_slot_of_word _ _ (bounded bytes ok).2 w a.short a.permitted)
