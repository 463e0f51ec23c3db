-- A form that is several, one after the other, read in turn: each off what the one before it left. Assumes nothing.
use Prim.Native.Nat.{ℕ, ◌+◌, ◌-◌, ◌≤◌}
use mathlib.Core.Path.{◌≡◌, refl, sym, ap, ◌∙◌}
use mathlib.Core.Bool.{Bool, true, false}
use mathlib.Core.List.{List, [], ◌∷◌, ◌++◌}
use native.Mathlib.Omega.{arith}
use lib.ListN.{length, drop, length-append, length-drop}
use lib.Seq.{drop_at, drop-drop}
use Rattle.words.specs.Words.{◌or◌}
use Rattle.forms.specs.declared.Letters.{Letters}
use Rattle.forms.specs.Form.{Found, nothing, found, Form, after}
use Rattle.forms.specs.Compose.{◌⊗◌, stands}
use Rattle.forms.specs.Laws.{Lawful, Lettered, begins}
use Rattle.forms.specs.Taken.{used_of, taken}
use Rattle.forms.proofs.Reading.{never}
use Rattle.forms.proofs.Taken.{There}

-- ---- one record
module _ {A : Type 0} {F : Form A} (L : Lawful F) (s : List ℕ) where
  pub written_long : (a : A) (rest : List ℕ) → F.read s ≡ found a rest → length (F.written a) ≡ length s - length rest
  written_long a rest e = let o = (L.one s a rest e).1 in omega (arith, ap length o, length-append (F.written a) rest)

  rest_at : (a : A) (rest : List ℕ) → F.read s ≡ found a rest → rest ≡ drop (length s - length rest) s
  rest_at a rest e =
      let o = (L.one s a rest e).1 in
      sym (ap (drop (length s - length rest)) o ∙ drop_at (F.written a) rest (length s - length rest) (written_long a rest e))

  rest_shorter : (a : A) (rest : List ℕ) → F.read s ≡ found a rest → length rest ≤ length s
  rest_shorter a rest e = let o = (L.one s a rest e).1 in omega (arith, ap length o, length-append (F.written a) rest)

  -- what is there is as long as what is written of it
  pub there_long : {k : ℕ} (t : There F k s) → length (F.written t.what) ≡ k
  there_long {k} t = by t.long (written_long t.what (drop k s) t.is)
    where
      by : k ≤ length s → length (F.written t.what) ≡ length s - length (drop k s) → length (F.written t.what) ≡ k
      by l e = omega (arith, e, l, length-drop k s)

pub stands_long : (m : Letters) (s : List ℕ) → stands m s ≡ true → 2 ≤ length s
stands_long m [] h = absurd (never false h refl)
stands_long m (x ∷ []) h = absurd (never false h refl)
stands_long m (x ∷ y ∷ s) h = omega arith

begins_long : (ms : List Letters) (s : List ℕ) → begins ms s ≡ true → 2 ≤ length s
begins_long [] s h = absurd (never false h refl)
begins_long (m ∷ ms) s h = by (stands m s) refl h (begins_long ms s)
  where
    by : (v : Bool) → stands m s ≡ v → v or begins ms s ≡ true → (begins ms s ≡ true → 2 ≤ length s) → 2 ≤ length s
    by true e h later = stands_long m s e
    by false e h later = later h

-- a record with letters takes some bytes where it is there, and none where it is not
module _ {A : Type 0} {ms : List Letters} {F : Form A} (K : Lettered ms F) (s : List ℕ) where
  some_taken : (a : A) (rest : List ℕ) → F.read s ≡ found a rest → 2 ≤ length s - length rest
  some_taken a rest e =
      let o = K.lawful.one s a rest e in
      let b = begins_long ms (F.written a ++ []) (K.lettered (F.written a ++ []) a [] (K.lawful.back a [] o.0)) in
      omega (arith, written_long K.lawful s a rest e, b, length-append (F.written a) [])

  pub not_there : taken F s ≡ 0 → F.read s ≡ nothing
  unfolding taken
  not_there h = by (F.read s) refl h
    where
      by : (x : Found A) → F.read s ≡ x → used_of (length s) x ≡ 0 → F.read s ≡ nothing
      by nothing e z = e
      by (found a rest) e z = absurd (omega (arith, some_taken a rest e, z))

  pub is_there : (taken F s ≡ 0 → ⊥) → There F (taken F s) s
  unfolding taken
  is_there h = by (F.read s) refl h
    where
      by : (x : Found A) → F.read s ≡ x → (used_of (length s) x ≡ 0 → ⊥) → There F (used_of (length s) x) s
      by nothing e z = absurd (z refl)
      by (found a rest) e z = record { what = a; is = e ∙ ap (found a) (rest_at K.lawful s a rest e); long = omega (arith, rest_shorter K.lawful s a rest e) }

-- ---- several
same_after : {A : Type 0} (x : Found A) → after x found ≡ x
same_after nothing = refl
same_after (found a rest) = refl

-- what is made of a value and of what is found after it
made_after : {A B Q : Type 0} (make : A × B → Q) (a : A) (x : Found B) → after (after x (λ b more. found (a, b) more)) (λ v more. found (make v) more) ≡ after x (λ b more. found (make (a, b)) more)
made_after make a nothing = refl
made_after make a (found b rest) = refl

module _ {Q : Type 0} (W : Form Q) (s : List ℕ) where
  -- after n bytes the form G is left to read, and the whole is made of its value
  pub record Reached {B : Type 0} (n : ℕ) (G : Form B) (make : B → Q) : Type 0 where
    pub goes : W.read s ≡ after (G.read (drop n s)) (λ b more. found (make b) more)

  pub at_start : Reached 0 W (λ v. v)
  at_start = record { goes = sym (same_after (W.read s)) }

  module _ {A B : Type 0} (F : Form A) (G : Form B) {n : ℕ} {make : A × B → Q} (r : Reached n (F ⊗ G) make) where
    pub goes_on : {k : ℕ} (t : There F k (drop n s)) → Reached (n + k) G (λ b. make (t.what, b))
    goes_on {k} t = record { goes = r.goes ∙ rw (t.is, ← drop-drop k n s) (made_after make t.what (G.read (drop k (drop n s)))) }

    -- the first one, at the front
    pub sets_out : n ≡ 0 → {k : ℕ} (t : There F k s) → Reached k G (λ b. make (t.what, b))
    sets_out z {k} t = record { goes = r.goes ∙ rw (z, t.is) (made_after make t.what (G.read (drop k s))) }

    pub lost : F.read (drop n s) ≡ nothing → W.read s ≡ nothing
    lost e = r.goes ∙ rw e

  module _ {B : Type 0} (G : Form B) {n : ℕ} {make : B → Q} (r : Reached n G make) where
    pub lost_last : G.read (drop n s) ≡ nothing → W.read s ≡ nothing
    lost_last e = r.goes ∙ rw e

    pub at_last : {k : ℕ} (t : There G k (drop n s)) → W.read s ≡ found (make t.what) (drop (n + k) s)
    at_last {k} t = r.goes ∙ rw (t.is, ← drop-drop k n s)
