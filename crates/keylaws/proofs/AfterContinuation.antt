-- What a call gives after a continuation, an answer or not, is just what the whole key has after it, and it is an end of the key. From the order's laws and the key's order.
use Prim.Native.Nat.{ℕ, zero, suc, ◌+◌, ◌≤◌, ◌<◌}
use mathlib.Core.Path.{◌≡◌, refl, ap, ◌∙◌, fun_ext}
use mathlib.Core.Logic.{◌↔◌}
use mathlib.Core.Bool.{Bool, true, false, cond}
use mathlib.Core.List.{List, [], ◌∷◌}
use native.Mathlib.Omega.{arith}
use lib.ListN.{length, drop, get_or, length-drop}
use lib.Seq.{get_or-drop, drop-drop}
use lib.Dec.{eqb}
use borrow.Author.Tests.{ne_eqb}
use Rattle.keylaws.specs.Rules.{Rules, Word}
use Rattle.keylaws.specs.Key.{answers, ◌among◌}
use Rattle.keylaws.specs.Order.{before}
use Rattle.keylaws.specs.Slots.{slot_of, word_of}
use Rattle.keylaws.specs.Continuation.{from_start, comes_after, keep, answers_after}
use Rattle.keylaws.proofs.Among.{among_at}
use Rattle.keylaws.proofs.OrderLaws.{before_irrefl, before_trans, before_asym}
use Rattle.keylaws.proofs.InOrderOnce.{Rising, rising}
use Rattle.keylaws.proofs.ExactlyTheAnswers.{sound}
use Rattle.keylaws.proofs.Keeping.{of_keep, in_keep, keep_all}
use Rattle.keylaws.proofs.SlotsOfWords.{word_of_slot}

-- what follows a word that comes after x comes after x too
after_on : (x : List ℕ) (v w : Word) → comes_after x v ≡ true → before v w ≡ true → comes_after x w ≡ true
unfolding comes_after
after_on x v w = go (eqb (get_or x 0 0) 255)
  where
    go : (b : Bool) → cond b true (before (word_of x) v) ≡ true → before v w ≡ true → cond b true (before (word_of x) w) ≡ true
    go true h g = refl
    go false h g = before_trans (word_of x) v w h g

-- after a slot: by the order
pub after_word : (x : List ℕ) → eqb (get_or x 0 0) 255 ≡ false → comes_after x ≡ before (word_of x)
unfolding comes_after
after_word x e = fun_ext (λ (w : Word). rw e refl)

-- ---- in a rising list
-- a test that all words after a passed one pass keeps an end
keep_end : (t : Word → Bool) → ((v w : Word) → t v ≡ true → before v w ≡ true → t w ≡ true) → (ws : List Word) → Rising ws → (i : ℕ) × (keep t ws ≡ drop i ws)
unfolding keep
keep_end t on [] r = (0, refl)
keep_end t on (w ∷ ws) r = go (keep_end t on ws r.1) (t w) refl
  where
    go : (i : ℕ) × (keep t ws ≡ drop i ws) → (b : Bool) → t w ≡ b → (i : ℕ) × (cond b (w ∷ keep t ws) (keep t ws) ≡ drop i (w ∷ ws))
    go ih true e = (0, ap (λ (l : List Word). w ∷ l) (keep_all t ws (λ v m. on w v e (r.0 v m))))
    go ih false e = (suc ih.0, ih.1)

-- after one of its words comes what follows it
keep_after : (ws : List Word) → Rising ws → (j : ℕ) → j < length ws → keep (before (get_or ws j [])) ws ≡ drop (suc j) ws
unfolding keep
keep_after [] r j h = absurd (omega arith)
keep_after (w ∷ ws) r zero h = rw (before_irrefl w) (keep_all (before w) ws r.0)
keep_after (w ∷ ws) r (suc j) h =
    let l : j < length ws = omega arith in
    rw (before_asym w (get_or ws j []) (r.0 (get_or ws j []) (among_at ws j l))) (keep_after ws r.1 j l)

module _ (R : Rules) (limit : ℕ) (start : R.Situation) where
  pub exactly_those_after : (x : List ℕ) (w : Word) → (w among answers_after R limit start x) ↔ ((w among answers R limit start) × (comes_after x w ≡ true))
  unfolding answers_after
  exactly_those_after x w = (λ m. of_keep _ w (answers R limit start) m, λ h. in_keep _ w (answers R limit start) h.0 h.1)

  pub an_end_of_the_key : (x : List ℕ) → (i : ℕ) × (answers_after R limit start x ≡ drop i (answers R limit start))
  unfolding answers_after
  an_end_of_the_key x = keep_end (comes_after x) (after_on x) (answers R limit start) (rising R limit start)

  pub after_the_start : answers_after R limit start from_start ≡ answers R limit start
  unfolding answers_after comes_after from_start
  after_the_start = keep_all (comes_after from_start) (answers R limit start) (λ v m. refl)

  pub short_after : (x : List ℕ) (w : Word) → w among answers_after R limit start x → length w ≤ limit
  short_after x w m = (sound R limit start w ((exactly_those_after x w).0 m).0).short

  after_slot : (w : Word) → length w ≤ 5 → answers_after R limit start (slot_of w) ≡ keep (before w) (answers R limit start)
  unfolding answers_after slot_of
  after_slot w h =
      let d : length w ≡ 255 → ⊥ = omega arith in
      ap (λ (t : Word → Bool). keep t (answers R limit start)) (after_word (slot_of w) (ne_eqb _ _ d) ∙ ap before (word_of_slot w))

  -- a call that continues after a slot that another gave goes on with the one that follows it
  pub after_an_answer : limit ≤ 5 → (x : List ℕ) (j : ℕ) → j < length (answers_after R limit start x)
      → answers_after R limit start (slot_of (get_or (answers_after R limit start x) j [])) ≡ drop (suc j) (answers_after R limit start x)
  after_an_answer h5 x j h =
      let key = answers R limit start in
      let i = (an_end_of_the_key x).0 in
      let e : answers_after R limit start x ≡ drop i key = (an_end_of_the_key x).1 in
      let w : Word = get_or (answers_after R limit start x) j [] in
      let l : length w ≤ limit = short_after x w (among_at (answers_after R limit start x) j h) in
      let g : i + j < length key = omega (arith, length-drop i key, ap length e) in
      let n : i + suc j ≡ suc (i + j) = omega arith in
      let d : w ≡ get_or key (i + j) [] = rw (e, get_or-drop) refl in
      after_slot w (omega arith) ∙ (rw (d, keep_after key (rising R limit start) (i + j) g, e, drop-drop, n) refl)
