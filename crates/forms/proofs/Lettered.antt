-- Letters: a record begins with its own, and with no other. Assumes nothing.
use Prim.Native.Nat.{ℕ}
use mathlib.Core.Path.{◌≡◌, refl, sym, ◌∙◌}
use mathlib.Core.Bool.{Bool, true, false, not}
use mathlib.Core.List.{List, [], ◌∷◌, ◌++◌}
use borrow.Author.Tests.{eq-eqb, eqb-true, not-true}
use Rattle.words.specs.Words.{◌or◌}
use lib.Dec.{eqb}
use Rattle.forms.specs.Form.{found, Form}
use Rattle.forms.specs.declared.Letters.{Letters}
use Rattle.forms.specs.Compose.{stands, letters, body_read}
use Rattle.forms.specs.Laws.{Lawful, Lettered, begins, same, among, apart}
use Rattle.forms.proofs.Reading.{never, both, both_of, fails, not_nothing, passed}

pub or_left : {a : Bool} (b : Bool) → a ≡ true → a or b ≡ true
or_left b h = rw h

pub or_right : (a : Bool) {b : Bool} → b ≡ true → a or b ≡ true
or_right true h = refl
or_right false h = h

-- ---- the bytes begin with one pair of letters only
stands_same : (m n : Letters) (s : List ℕ) → stands m s ≡ true → stands n s ≡ true → same m n ≡ true
stands_same m n [] h k = absurd (never false h refl)
stands_same m n (x ∷ []) h k = absurd (never false h refl)
stands_same m n (x ∷ y ∷ s) h k =
    let a = both (eqb x m.first) _ h in
    let b = both (eqb x n.first) _ k in
    both_of (eq-eqb _ _ (sym (eqb-true x _ a.0) ∙ eqb-true x _ b.0)) (eq-eqb _ _ (sym (eqb-true y _ a.1) ∙ eqb-true y _ b.1))

stands_among : (m : Letters) (ns : List Letters) (s : List ℕ) → stands m s ≡ true → begins ns s ≡ true → among m ns ≡ true
stands_among m [] s h k = k
stands_among m (n ∷ ns) s h k = by (stands n s) refl k (stands_among m ns s h)
  where
    by : (v : Bool) → stands n s ≡ v → v or begins ns s ≡ true → (begins ns s ≡ true → among m ns ≡ true) → same m n or among m ns ≡ true
    by true e k later = or_left _ (stands_same m n s h e)
    by false e k later = or_right (same m n) (later k)

pub apart_letters : (m : Letters) (ns : List Letters) (s : List ℕ) → apart (m ∷ []) ns ≡ true → begins ns s ≡ true → stands m s ≡ false
apart_letters m ns s far b =
    fails (stands m s) (λ h. never (among m ns) (stands_among m ns s h b) (not-true _ (both (not (among m ns)) true far).0))

-- ---- two letters before a body
pub letters_stand : (m : Letters) (s : List ℕ) → stands m (m.first ∷ m.second ∷ s) ≡ true
letters_stand m s = both_of (eq-eqb m.first m.first refl) (eq-eqb m.second m.second refl)

module _ {A : Type 0} (m : Letters) {F : Form A} (L : Lawful F) where
  letters_one : (s : List ℕ) (a : A) (rest : List ℕ) → body_read m F s ≡ found a rest → (F.writes a ≡ true) × (s ≡ (letters m F).written a ++ rest)
  letters_one [] a rest e = absurd (not_nothing e)
  letters_one (x ∷ []) a rest e = absurd (not_nothing e)
  letters_one (x ∷ y ∷ s) a rest e =
      let p = passed (stands m (x ∷ y ∷ s)) e in
      let t = both (eqb x m.first) (eqb y m.second) p.0 in
      let l = L.one s a rest p.1 in
      (l.0, rw (eqb-true x m.first t.0, eqb-true y m.second t.1, l.1))

  letters_lettered : (s : List ℕ) (a : A) (rest : List ℕ) → body_read m F s ≡ found a rest → begins (m ∷ []) s ≡ true
  letters_lettered [] a rest e = absurd (not_nothing e)
  letters_lettered (x ∷ []) a rest e = absurd (not_nothing e)
  letters_lettered (x ∷ y ∷ s) a rest e = or_left false (passed (stands m (x ∷ y ∷ s)) e).0

  pub letters_law : Lettered (m ∷ []) (letters m F)
  letters_law = record {
    lawful = record { back = λ a rest h. rw (letters_stand m (F.written a ++ rest)) (L.back a rest h); one = letters_one };
    lettered = letters_lettered;
  }

-- ---- lists of letters
pub begins_left : (ms ns : List Letters) (s : List ℕ) → begins ms s ≡ true → begins (ms ++ ns) s ≡ true
begins_left [] ns s h = absurd (never false h refl)
begins_left (m ∷ ms) ns s h = by (stands m s) h (begins_left ms ns s)
  where
    by : (v : Bool) → v or begins ms s ≡ true → (begins ms s ≡ true → begins (ms ++ ns) s ≡ true) → v or begins (ms ++ ns) s ≡ true
    by true h later = refl
    by false h later = later h

pub begins_right : (ms ns : List Letters) (s : List ℕ) → begins ns s ≡ true → begins (ms ++ ns) s ≡ true
begins_right [] ns s h = h
begins_right (m ∷ ms) ns s h = or_right (stands m s) (begins_right ms ns s h)

pub apart_lists : (ms ns : List Letters) (s : List ℕ) → apart ms ns ≡ true → begins ns s ≡ true → begins ms s ≡ false
apart_lists [] ns s far b = refl
apart_lists (m ∷ ms) ns s far b =
    let t = both (not (among m ns)) (apart ms ns) far in
    rw (apart_letters m ns s (rw t.0) b) (apart_lists ms ns s t.1 b)
