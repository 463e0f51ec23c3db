-- Records at the front of bytes: what the code finds there is what the forms take. Assumes nothing.
use Rattle.std.specs.Prelude.{if◌then◌else◌}
use Prim.Native.Nat.{ℕ, suc, ◌+◌, ◌-◌, ◌*◌, ◌≤◌, ◌<◌}
use mathlib.Core.Path.{◌≡◌, refl, sym, ap, ◌∙◌}
use mathlib.Core.Bool.{Bool, true, false, not, ◌&&◌}
use mathlib.Core.List.{List, [], ◌∷◌}
use native.Mathlib.Omega.{arith}
use native.Mathlib.Nat.{mul-le-mul, mul_comm}
use borrow.Author.Tests.{le-leb, lt-leb, leb-true, leb-false}
use mir.Syntax.{w8}
use mir.Val.{Fits}
use lib.ListN.{length, take, drop, get_or, length-drop}
use lib.Seq.{get_or-drop, drop-drop, length-take-le}
use lib.Dec.{eqb, leb}
use Rattle.words.specs.Words.{◌and◌}
use Rattle.forms.specs.declared.Letters.{Letters}
use Rattle.forms.specs.Form.{nothing, Form}
use Rattle.forms.specs.Compose.{stands, letters, only}
use Rattle.forms.specs.Choices.{times, ◌or_else◌}
use Rattle.forms.specs.Compose as Compose
use Rattle.forms.specs.Laws.{Lawful}
use Rattle.forms.specs.Taken.{taken}
use Rattle.forms.proofs.Reading.{both}
use Rattle.forms.proofs.InTurn.{stands_long as letters-long}
use Rattle.forms.proofs.Lists.{times_law}
use Rattle.forms.proofs.Sizes.{Bytes, bytes_on, Size, Takes, short_reads_nothing, times_takes}
use Rattle.forms.proofs.Taken.{There, there_taken, none_taken, Spans, there_spans, none_spans, takes_there, letters_there, letters_not, letters_nothing, only_there, only_not, only_nothing, first_there, second_there, neither, counted_there, counted_not, counted_nothing}
use Rattle.records.specs.Sizes.{stands_with, fixed, counted}

pub product : {w c n : ℕ} → w ≤ 3 → c < n → w * c ≤ 3 * n
product h k = mul-le-mul h (omega arith)

-- what the checker knows of the elements of a slice of bytes
pub bytes_of : (s : List ℕ) → ((i : ℕ) → Fits w8 (get_or s i 0)) → Bytes s
bytes_of s h i = (h i).fits

-- ---- two letters and so many bytes
and_false : (v : Bool) → v and false ≡ false
and_false true = refl
and_false false = refl

pub short_stands : (m : Letters) (size : ℕ) (s : List ℕ) → length s < 2 + size → stands_with m size s ≡ false
unfolding stands_with
short_stands m size s h = rw (lt-leb (2 + size) (length s) h) (and_false (stands m s))

pub and_true : (v : Bool) → v and true ≡ v
and_true true = refl
and_true false = refl

-- two more on both sides
same_two : (a b : ℕ) → leb (2 + a) (suc (suc b)) ≡ leb a b
same_two a b = by (leb a b) refl
  where
    by : (v : Bool) → leb a b ≡ v → leb (2 + a) (suc (suc b)) ≡ v
    by true e = le-leb (2 + a) (suc (suc b)) (omega (arith, leb-true a b e))
    by false e = lt-leb (2 + a) (suc (suc b)) (omega (arith, leb-false a b e))

-- the letters, and then as many bytes as there are to the end
pub long_stands : (m : Letters) (size : ℕ) (s : List ℕ) → 2 ≤ length s
    → ((eqb (get_or s 0 0) m.first && eqb (get_or s 1 0) m.second) && leb size (length (take (length s - 2) (drop 2 s)))) ≡ stands_with m size s
unfolding stands_with
long_stands m size [] h = absurd (omega arith)
long_stands m size (x ∷ []) h = absurd (omega arith)
long_stands m size (x ∷ y ∷ s) h =
    let l : length (take (length (x ∷ y ∷ s) - 2) s) ≡ length s = length-take-le (length (x ∷ y ∷ s) - 2) s (omega arith) ∙ omega arith in
    rw (l, same_two size (length s)) (joined (eqb x m.first) (eqb y m.second) (leb size (length s)))
  where
    joined : (a b c : Bool) → ((a && b) && c) ≡ (a and b and c)
    joined true true c = refl
    joined true false c = refl
    joined false b c = refl

module _ (m : Letters) (size : ℕ) (s : List ℕ) (h : stands_with m size s ≡ true) where
  pub stands_long : 2 + size ≤ length s
  unfolding stands_with
  stands_long = leb-true (2 + size) (length s) (both (stands m s) (leb (2 + size) (length s)) h).1

  pub letters_stand : stands m s ≡ true
  unfolding stands_with
  letters_stand = (both (stands m s) (leb (2 + size) (length s)) h).0

-- ---- a form of a fixed size after two letters
module _ {A : Type 0} (m : Letters) {n : ℕ} {F : Form A} (L : Lawful F) (Z : Size n F) (s : List ℕ) where
  pub fixed_not : stands_with m n s ≡ false → (letters m F).read s ≡ nothing
  unfolding stands_with
  fixed_not h = by (stands m s) refl h
    where
      by : (v : Bool) → stands m s ≡ v → v and leb (2 + n) (length s) ≡ false → (letters m F).read s ≡ nothing
      by false e h = letters_not m F s e
      by true e h = letters_nothing m F s (short_reads_nothing L Z (drop 2 s) (omega (arith, letters-long m s e, leb-false (2 + n) (length s) h, length-drop 2 s)))

module _ {A : Type 0} (m : Letters) {n : ℕ} {F : Form A} (L : Lawful F) (Z : Takes n F) (s : List ℕ) (b : Bytes s) where
  pub fixed_there : stands_with m n s ≡ true → There (letters m F) (2 + n) s
  fixed_there h =
      let l : n ≤ length (drop 2 s) = omega (arith, stands_long m n s h, length-drop 2 s) in
      letters_there m F s (letters_stand m n s h) (takes_there L Z (drop 2 s) (bytes_on 2 s b) l)

  pub fixed_taken : taken (letters m F) s ≡ fixed m n s
  unfolding fixed
  fixed_taken = by (stands_with m n s) refl
    where
      by : (v : Bool) → stands_with m n s ≡ v → taken (letters m F) s ≡ (if v then 2 + n else 0)
      by true e = there_taken (fixed_there e)
      by false e = none_taken (letters m F) s (fixed_not m L Z.sized s e)

-- ---- one of two records, the first of a fixed size after its letters
module _ {A : Type 0} (m : Letters) {n : ℕ} {F : Form A} (L : Lawful F) (Z : Takes n F) (G : Form A) (s : List ℕ) (b : Bytes s) where
  pub first_spans : stands_with m n s ≡ true → Spans (letters m F or_else G) s (2 + n)
  first_spans h = there_spans (letters m F or_else G) (first_there (letters m F) G s (fixed_there m L Z s b h))

  module _ (h : stands_with m n s ≡ false) where
    no_first : (letters m F).read s ≡ nothing
    no_first = fixed_not m L Z.sized s h

    neither_spans : (only (λ a. not (F.writes a)) G).read s ≡ nothing → Spans (letters m F or_else G) s 0
    neither_spans e = none_spans (letters m F or_else G) s (neither (letters m F) G s no_first e)

    -- the second, where the first cannot write its value
    pub second_spans : {k : ℕ} (t : There G k s) → F.writes t.what ≡ false → Spans (letters m F or_else G) s k
    second_spans t w = there_spans (letters m F or_else G) (second_there (letters m F) G s no_first (only_there (λ a. not (F.writes a)) t (ap not w)))

    pub first_was_due : {k : ℕ} (t : There G k s) → F.writes t.what ≡ true → Spans (letters m F or_else G) s 0
    first_was_due t w = neither_spans (only_not (λ a. not (F.writes a)) t (ap not w))

    pub second_missing : G.read s ≡ nothing → Spans (letters m F or_else G) s 0
    second_missing e = neither_spans (only_nothing (λ a. not (F.writes a)) G s e)

-- ---- a count and so many values after two letters
module _ {A : Type 0} (m : Letters) (least most : ℕ) (F : Form A) (s : List ℕ) where
  count_is : get_or (drop 2 s) 0 0 ≡ get_or s 2 0
  count_is = get_or-drop 2 s 0 0

  items_are : drop 1 (drop 2 s) ≡ drop 3 s
  items_are = drop-drop 1 2 s

  pub list_there : {k : ℕ} → stands_with m 1 s ≡ true → leb least (get_or s 2 0) and leb (get_or s 2 0) most ≡ true → There (times (get_or s 2 0) F) k (drop 3 s) → There (letters m (Compose.counted least most F)) (2 + (1 + k)) s
  list_there {k} h c t =
      let l : 1 ≤ length (drop 2 s) = omega (arith, stands_long m 1 s h, length-drop 2 s) in
      let u : There (times (get_or (drop 2 s) 0 0) F) k (drop 1 (drop 2 s)) = rw (count_is, items_are) t in
      letters_there m (Compose.counted least most F) s (letters_stand m 1 s h) (counted_there least most F (drop 2 s) l (rw count_is c) u)

  pub list_count : leb least (get_or s 2 0) and leb (get_or s 2 0) most ≡ false → (letters m (Compose.counted least most F)).read s ≡ nothing
  list_count c = letters_nothing m (Compose.counted least most F) s (counted_not least most F (drop 2 s) (rw count_is c))

  pub list_items : (times (get_or s 2 0) F).read (drop 3 s) ≡ nothing → (letters m (Compose.counted least most F)).read s ≡ nothing
  list_items e = letters_nothing m (Compose.counted least most F) s (counted_nothing least most F (drop 2 s) (rw (count_is, items_are) e))

  no_count : (t : List ℕ) → length t < 1 → (Compose.counted least most F).read t ≡ nothing
  no_count [] h = refl
  no_count (x ∷ t) h = absurd (omega arith)

  pub list_not : stands_with m 1 s ≡ false → (letters m (Compose.counted least most F)).read s ≡ nothing
  unfolding stands_with
  list_not h = by (stands m s) refl h
    where
      by : (v : Bool) → stands m s ≡ v → v and leb 3 (length s) ≡ false → (letters m (Compose.counted least most F)).read s ≡ nothing
      by false e h = letters_not m (Compose.counted least most F) s e
      by true e h = letters_nothing m (Compose.counted least most F) s (no_count (drop 2 s) (omega (arith, letters-long m s e, leb-false 3 (length s) h, length-drop 2 s)))

-- what the code tests of such a record
module _ (m : Letters) (least most width : ℕ) (s : List ℕ) where
  pub data CountedCase : Type 0 where
    no_letters : stands_with m 1 s ≡ false → counted m least most width s ≡ 0 → CountedCase
    bad_count : leb least (get_or s 2 0) and leb (get_or s 2 0) most ≡ false → counted m least most width s ≡ 0 → CountedCase
    too_short : length (drop 3 s) < get_or s 2 0 * width → counted m least most width s ≡ 0 → CountedCase
    all_there : stands_with m 1 s ≡ true → leb least (get_or s 2 0) and leb (get_or s 2 0) most ≡ true → get_or s 2 0 * width ≤ length (drop 3 s)
        → counted m least most width s ≡ 2 + (1 + get_or s 2 0 * width) → 2 + (1 + get_or s 2 0 * width) ≤ length s → CountedCase

  pub counted_case : CountedCase
  unfolding counted
  counted_case = by (stands_with m 1 s) refl (leb least (get_or s 2 0) and leb (get_or s 2 0) most) refl (leb (3 + width * get_or s 2 0) (length s)) refl
    where
      c : ℕ
      c = get_or s 2 0

      by : (x : Bool) → stands_with m 1 s ≡ x → (y : Bool) → leb least (get_or s 2 0) and leb (get_or s 2 0) most ≡ y → (z : Bool) → leb (3 + width * get_or s 2 0) (length s) ≡ z → CountedCase
      by false e y f z g = no_letters e (rw e)
      by true e false f z g = bad_count f (rw (e, f))
      by true e true f false g = too_short (omega (arith, leb-false (3 + width * get_or s 2 0) (length s) g, length-drop 3 s, mul_comm width (get_or s 2 0), stands_long m 1 s e)) (rw (e, f, g))
      by true e true f true g =
          all_there e f (omega (arith, leb-true (3 + width * get_or s 2 0) (length s) g, length-drop 3 s, mul_comm width (get_or s 2 0)))
          (rw (e, f, g) (omega (arith, mul_comm width (get_or s 2 0))))
          (omega (arith, leb-true (3 + width * get_or s 2 0) (length s) g, mul_comm width (get_or s 2 0)))

-- of values of a fixed size
module _ {A : Type 0} (m : Letters) (least most : ℕ) {n : ℕ} {F : Form A} (L : Lawful F) (Z : Takes n F) (s : List ℕ) (b : Bytes s) where
  pub data ListCase : Type 0 where
    list_is_not : (letters m (Compose.counted least most F)).read s ≡ nothing → counted m least most n s ≡ 0 → ListCase
    list_is : There (letters m (Compose.counted least most F)) (2 + (1 + get_or s 2 0 * n)) s → leb least (get_or s 2 0) and leb (get_or s 2 0) most ≡ true → counted m least most n s ≡ 2 + (1 + get_or s 2 0 * n) → ListCase

  pub list_case : ListCase
  list_case = by (counted_case m least most n s)
    where
      by : CountedCase m least most n s → ListCase
      by (no_letters h e) = list_is_not (list_not m least most F s h) e
      by (bad_count h e) = list_is_not (list_count m least most F s h) e
      by (too_short h e) = list_is_not (list_items m least most F s (short_reads_nothing (times_law L (get_or s 2 0)) (times_takes L (get_or s 2 0) Z).sized (drop 3 s) h)) e
      by (all_there h c l e k) = list_is (list_there m least most F s h c (takes_there (times_law L (get_or s 2 0)) (times_takes L (get_or s 2 0) Z) (drop 3 s) (bytes_on 3 s b) l)) c e

  pub list_taken : taken (letters m (Compose.counted least most F)) s ≡ counted m least most n s
  list_taken = by list_case
    where
      by : ListCase → taken (letters m (Compose.counted least most F)) s ≡ counted m least most n s
      by (list_is_not e z) = none_taken (letters m (Compose.counted least most F)) s e ∙ sym z
      by (list_is t c z) = there_taken t ∙ sym z

-- the code's own count: n is the byte, as a number of bytes
pub list_stands : (m : Letters) (least most width n : ℕ) (s : List ℕ) → n ≡ get_or s 2 0 → stands_with m 1 s ≡ true
    → leb least (get_or s 2 0) and leb (get_or s 2 0) most and leb (3 + width * n) (length s) ≡ true
    → (3 + width * n ≡ counted m least most width s) × (3 + width * n ≤ length s)
unfolding counted
list_stands m least most width n s e h t =
    let y = both (leb least (get_or s 2 0) and leb (get_or s 2 0) most) (leb (3 + width * n) (length s)) t in
    (rw (h, ← e) (rw (rw (← e) at t)), leb-true _ _ y.1)
