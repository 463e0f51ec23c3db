-- The pieces joined are the whole text, in whatever rooms, once the printing has ended; and in rooms of 47 bytes or more it ends. From the laws of what is left.
use Rattle.std.proofs.Common.{◌≡◌, ℕ, zero, suc, ◌+◌, ◌-◌, ◌%◌, ◌^◌, ◌<◌, ◌≤◌, Bool, true, false, eqb, ltb, List, [], ◌∷◌, ◌++◌, length, take, drop, sym, refl, ap, ◌∙◌, append_assoc, append-nil, arith, length-append, length-drop, take-append-drop, le-ltb, eq-eqb, eqb-true}
use mathlib.Core.List.{flatten}
use Rattle.words.specs.Words.{◌or◌}
use Rattle.keylaws.specs.Rules.{Word}
use Rattle.keylaws.proofs.Tests.{never}
use Rattle.keylaws.proofs.SlotsOfWords.{start_continues}
use Rattle.keylaws.proofs.AfterContinuation.{after_the_start}
use Rattle.keylaws.proofs.KeyIsBounded.{key_few}
use Rattle.keytext.specs.Text.{line, lines, total_label, refused_label, total, refused}
use Rattle.keytext.proofs.LineLaws.{labelled_length}
use Rattle.keytext.proofs.LinesOfSlots.{lines_append}
use Rattle.paper.specs.Read.{read_of}
use Rattle.keys.specs.Key.{question_in, rules, key_of}
use Rattle.keys.proofs.Accepted.{bounded}
use Rattle.printing.specs.Printed.{printed}
use Rattle.printing.specs.Pieces.{Progress, start, the_end, refusal, left, counted, Given, last_piece, lines_piece, fitting, piece, pieces, joined, reached, Rooms, rest}
use Rattle.printing.proofs.LeftLaws.{goes_on, continues}
use Rattle.printing.proofs.PieceSteps.{accepted, by_case}

-- ---- the text that is left, by cases
module _ (bytes : List ℕ) (progress : Progress) where
  pub nothing_left : progress.ended ≡ true → rest bytes progress ≡ []
  unfolding rest
  nothing_left e = rw e

  module _ (on : progress.ended ≡ false) where
    refusal_left : eqb (refusal bytes progress) 0 ≡ false → rest bytes progress ≡ refused (refusal bytes progress)
    unfolding rest
    refusal_left r = rw (on, r)

    lines_left : eqb (refusal bytes progress) 0 ≡ true → rest bytes progress ≡ (last_piece progress (left bytes progress)).text
    unfolding rest
    lines_left r = rw (on, r)

-- ---- a piece, then what is left after it
lines_some : (n : ℕ) (ws : List Word) → 1 ≤ n → 1 ≤ length ws → 1 ≤ length (lines (take n ws))
unfolding lines line flatten
lines_some n [] one some = absurd (omega arith)
lines_some zero (w ∷ ws) one some = absurd (omega arith)
lines_some (suc n) ([] ∷ ws) one some = omega arith
lines_some (suc n) ((p ∷ w) ∷ ws) one some = simp length-append (omega arith)

same_count : (t n l : ℕ) → n ≤ l → ((t + n) % 2 ^ 64 + (l - n)) % 2 ^ 64 ≡ (t + l) % 2 ^ 64
same_count t n l h = omega arith

module _ (bytes : List ℕ) (progress : Progress) (on : progress.ended ≡ false) (r : eqb (refusal bytes progress) 0 ≡ true) where
  lines_then_rest : (n : ℕ) → 1 ≤ n → n < length (left bytes progress) → lines (take n (left bytes progress)) ++ rest bytes (lines_piece progress n (left bytes progress)).next ≡ rest bytes progress
  lines_then_rest n one h =
      let ws = left bytes progress in
      let next = (lines_piece progress n ws).next in
      let a = accepted bytes progress (eqb-true _ 0 r) in
      let none : eqb (refusal bytes next) 0 ≡ true = rw (eq-eqb _ 0 a.0, continues bytes a.0 progress n one h) in
      let others : left bytes next ≡ drop n ws = goes_on bytes a.0 progress n one h in
      let count : counted next (length (drop n ws)) ≡ counted progress (length ws) = rw length-drop (same_count progress.total n (length ws) (omega arith)) in
      ap (λ (t : List ℕ). lines (take n ws) ++ t) (lines_left bytes next refl none)
      ∙ (rw (others, count, ← append_assoc (lines (take n ws)) (lines (drop n ws)), ← lines_append, take-append-drop))
      ∙ sym (lines_left bytes progress on r)

module _ (bytes : List ℕ) (progress : Progress) (size : ℕ) where
  pub piece_then_rest : (piece bytes progress size).text ++ rest bytes (piece bytes progress size).next ≡ rest bytes progress
  piece_then_rest =
      by_case bytes progress size (λ (g : Given). g.text ++ rest bytes g.next ≡ rest bytes progress)
      (λ e. refl)
      (λ on r. rw (nothing_left bytes the_end refl, append-nil) (sym (refusal_left bytes progress on r)))
      (λ on r. rw (nothing_left bytes the_end refl, append-nil) (sym (lines_left bytes progress on r)))
      (λ on r one more. lines_then_rest bytes progress on r (fitting size) one more)

  pub lengths_add : length (piece bytes progress size).text + length (rest bytes (piece bytes progress size).next) ≡ length (rest bytes progress)
  lengths_add = sym (length-append (piece bytes progress size).text (rest bytes (piece bytes progress size).next)) ∙ ap length piece_then_rest

  -- a room of a line and a total gets something, until the text has ended
  pub some_text : 47 ≤ size → progress.ended ≡ false → 1 ≤ length (piece bytes progress size).text
  some_text long on =
      by_case bytes progress size (λ (g : Given). 1 ≤ length g.text)
      (λ e. absurd (never (progress.ended or ltb size 47) e (rw on (le-ltb size 47 long))))
      (λ on r. omega (arith, labelled_length refused_label (refusal bytes progress)))
      (λ on r. omega (arith, length-append (lines (left bytes progress)) (total (counted progress (length (left bytes progress)))), labelled_length total_label (counted progress (length (left bytes progress)))))
      (λ on r one more. lines_some (fitting size) (left bytes progress) one (omega arith))

-- ---- all pieces
module _ (bytes : List ℕ) where
  pub rest_of_start : rest bytes start ≡ printed bytes
  unfolding rest printed
  rest_of_start = go (eqb (read_of bytes).refusal 0) refl
    where
      go : (b : Bool) → eqb (read_of bytes).refusal 0 ≡ b → rest bytes start ≡ printed bytes
      go true e =
          let q = question_in bytes in
          let b = bounded bytes (eqb-true _ 0 e) in
          let key = after_the_start (rules q) q.length q.situation in
          let few = key_few (rules q) q.length q.situation b.0 b.2 in
          let count : (0 + length (key_of q)) % 2 ^ 64 ≡ length (key_of q) = omega arith in
          rw (e, start_continues (rules q).events q.length, key, count)
      go false e = rw (e, e)

  ended_at_nothing : (progress : Progress) → length (rest bytes progress) ≡ 0 → progress.ended ≡ true
  ended_at_nothing progress h = go progress.ended refl
    where
      go : (b : Bool) → progress.ended ≡ b → b ≡ true
      go true e = refl
      go false e = absurd (omega (arith, some_text bytes progress 47 (omega arith) e, lengths_add bytes progress 47))

  pieces_then_rest : (sizes : List ℕ) (progress : Progress) → joined (pieces bytes progress sizes) ++ rest bytes (reached bytes progress sizes) ≡ rest bytes progress
  unfolding pieces reached flatten
  pieces_then_rest [] progress = refl
  pieces_then_rest (size ∷ sizes) progress =
      let g = piece bytes progress size in
      append_assoc g.text (joined (pieces bytes g.next sizes)) (rest bytes (reached bytes g.next sizes))
      ∙ (rw (pieces_then_rest sizes g.next) (piece_then_rest bytes progress size))

  -- what is left gets shorter
  pub shorter : (progress : Progress) (size : ℕ) → 47 ≤ size → progress.ended ≡ false → length (rest bytes (piece bytes progress size).next) < length (rest bytes progress)
  shorter progress size long on = omega (arith, some_text bytes progress size long on, lengths_add bytes progress size)

  ends : (sizes : List ℕ) (progress : Progress) → Rooms sizes → length (rest bytes progress) ≤ length sizes → (reached bytes progress sizes).ended ≡ true
  unfolding reached
  ends [] progress hs h = ended_at_nothing progress (omega arith)
  ends (size ∷ sizes) progress hs h = ends sizes (piece bytes progress size).next hs.1 (go progress.ended refl)
    where
      go : (b : Bool) → progress.ended ≡ b → length (rest bytes (piece bytes progress size).next) ≤ length sizes
      go true e = omega (arith, ap length (nothing_left bytes progress e), lengths_add bytes progress size)
      go false e = omega (arith, shorter progress size hs.0 e)

  -- from the start, in whatever rooms: once it has ended, the pieces joined are the whole text; and in rooms of 47 bytes or more, as many as the text has bytes, it ends
  pub pieces_joined : (sizes : List ℕ) → ((reached bytes start sizes).ended ≡ true → joined (pieces bytes start sizes) ≡ printed bytes)
      × (Rooms sizes → length (printed bytes) ≤ length sizes → (reached bytes start sizes).ended ≡ true)
  pieces_joined sizes =
      (λ e. sym (append-nil (joined (pieces bytes start sizes))) ∙ (rw (← nothing_left bytes (reached bytes start sizes) e) (pieces_then_rest sizes start ∙ rest_of_start)), λ hs h. ends sizes start hs (rw rest_of_start h))
