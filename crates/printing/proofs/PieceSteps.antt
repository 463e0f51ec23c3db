-- A piece by cases: nothing, the refusal, the last lines with the total, or lines. From the definition.
use Rattle.std.specs.Prelude.{if◌then◌else◌}
use Rattle.std.proofs.Common.{◌≡◌, ℕ, ◌<◌, ◌≤◌, Bool, true, false, eqb, ltb, leb, List, [], length, refl, arith, ltb-false, eq-eqb, eqb-true, leb-false}
use Rattle.words.specs.Words.{◌or◌}
use Rattle.keylaws.specs.Continuation.{is_continuation}
use Rattle.keylaws.proofs.Tests.{never}
use Rattle.keytext.specs.Text.{refused}
use Rattle.keys.specs.Key.{Accepted, question_in, rules}
use Rattle.printing.specs.Pieces.{Progress, the_end, refusal, left, Given, last_piece, lines_piece, fitting, piece}

-- no refusal: the question is accepted, and the progress goes on in it
none_refused : (r : ℕ) (c : Bool) → (if eqb r 0 then (if c then 0 else 22) else r) ≡ 0 → (r ≡ 0) × (c ≡ true)
none_refused r c h = go (eqb r 0) refl c h
  where
    go : (b : Bool) → eqb r 0 ≡ b → (c : Bool) → (if b then (if c then 0 else 22) else r) ≡ 0 → (r ≡ 0) × (c ≡ true)
    go true e true g = (eqb-true r 0 e, refl)
    go true e false g = absurd (omega arith)
    go false e c g = absurd (never (eqb r 0) (eq-eqb r 0 g) e)

pub accepted : (bytes : List ℕ) (progress : Progress) → refusal bytes progress ≡ 0 → Accepted bytes × (is_continuation (rules (question_in bytes)).events (question_in bytes).length progress.after ≡ true)
accepted bytes progress h = none_refused _ _ h

either_false : (a b : Bool) → a or b ≡ false → (a ≡ false) × (b ≡ false)
either_false true b h = absurd (never true refl h)
either_false false b h = (refl, h)

module _ (bytes : List ℕ) (progress : Progress) (size : ℕ) where
  pub nothing_given : progress.ended or ltb size 47 ≡ true → piece bytes progress size ≡ record { text = []; next = progress }
  unfolding piece
  nothing_given e = rw e

  pub going : progress.ended or ltb size 47 ≡ false → (progress.ended ≡ false) × (47 ≤ size)
  going e = let h = either_false progress.ended (ltb size 47) e in (h.0, ltb-false size 47 h.1)

  module _ (some : progress.ended or ltb size 47 ≡ false) where
    pub refusal_given : eqb (refusal bytes progress) 0 ≡ false → piece bytes progress size ≡ record { text = refused (refusal bytes progress); next = the_end }
    unfolding piece
    refusal_given e = rw (some, e)

    pub last_given : eqb (refusal bytes progress) 0 ≡ true → leb (length (left bytes progress)) (fitting size) ≡ true → piece bytes progress size ≡ last_piece progress (left bytes progress)
    unfolding piece
    last_given e l = rw (some, e, l)

    pub lines_given : eqb (refusal bytes progress) 0 ≡ true → leb (length (left bytes progress)) (fitting size) ≡ false → piece bytes progress size ≡ lines_piece progress (fitting size) (left bytes progress)
    unfolding piece
    lines_given e l = rw (some, e, l)

  -- what holds of the piece in each case holds of it
  pub by_case : (P : Given → Type 0) → (progress.ended or ltb size 47 ≡ true → P (record { text = []; next = progress }))
      → (progress.ended ≡ false → eqb (refusal bytes progress) 0 ≡ false → P (record { text = refused (refusal bytes progress); next = the_end }))
      → (progress.ended ≡ false → eqb (refusal bytes progress) 0 ≡ true → P (last_piece progress (left bytes progress)))
      → (progress.ended ≡ false → eqb (refusal bytes progress) 0 ≡ true → 1 ≤ fitting size → fitting size < length (left bytes progress) → P (lines_piece progress (fitting size) (left bytes progress)))
      → P (piece bytes progress size)
  by_case P none refusing last some = given (progress.ended or ltb size 47) refl
    where
      fit : (s : progress.ended or ltb size 47 ≡ false) → eqb (refusal bytes progress) 0 ≡ true → (b : Bool) → leb (length (left bytes progress)) (fitting size) ≡ b → P (piece bytes progress size)
      fit s r true e = rw (last_given s r e) (last (going s).0 r)
      fit s r false e = let long = (going s).1 in rw (lines_given s r e) (some (going s).0 r (omega arith) (leb-false _ _ e))

      judged : (s : progress.ended or ltb size 47 ≡ false) → (b : Bool) → eqb (refusal bytes progress) 0 ≡ b → P (piece bytes progress size)
      judged s true r = fit s r (leb (length (left bytes progress)) (fitting size)) refl
      judged s false r = rw (refusal_given s r) (refusing (going s).0 r)

      given : (b : Bool) → progress.ended or ltb size 47 ≡ b → P (piece bytes progress size)
      given true e = rw (nothing_given e) (none e)
      given false e = judged e (eqb (refusal bytes progress) 0) refl
