-- How many bytes a form takes: each way to put forms together, told by where the bytes are. Assumes nothing.
use Rattle.std.specs.Prelude.{if◌then◌else◌}
use Prim.Native.Nat.{ℕ, ◌+◌, ◌≤◌}
use mathlib.Core.Path.{◌≡◌, refl, sym, ap, ◌∙◌}
use mathlib.Core.Bool.{Bool, true, false, not}
use mathlib.Core.List.{List, [], ◌∷◌}
use native.Mathlib.Omega.{arith}
use lib.ListN.{length, take, drop, get_or, length-drop}
use lib.Seq.{take_at, drop-drop}
use lib.Dec.{leb}
use Rattle.words.specs.Words.{◌and◌}
use Rattle.forms.specs.declared.Letters.{Letters}
use Rattle.forms.specs.Form.{Found, nothing, found, Form}
use Rattle.forms.specs.Compose.{stands, letters, only, counted}
use Rattle.forms.specs.Choices.{times, there, unless_zero, ◌or_else◌}
use Rattle.forms.specs.Laws.{Lawful}
use Rattle.forms.specs.Taken.{reads, taken, value}
use Rattle.forms.proofs.Reading.{never}
use Rattle.forms.proofs.Sizes.{Bytes, Size, Takes, rest_is}

-- a form is there, and takes k bytes
pub record There {A : Type 0} (F : Form A) (k : ℕ) (s : List ℕ) : Type 0 where
  pub what : A
  pub is : F.read s ≡ found what (drop k s)
  pub long : k ≤ length s

module _ {A : Type 0} {F : Form A} where
  pub there_taken : {k : ℕ} {s : List ℕ} → There F k s → taken F s ≡ k
  unfolding taken
  there_taken {k} {s} t = rw t.is (omega (arith, length-drop k s, t.long))

  pub there_reads : {k : ℕ} {s : List ℕ} → There F k s → reads F s ≡ true
  unfolding reads
  there_reads t = rw t.is

  pub there_value : {k : ℕ} {s : List ℕ} (none : A) (t : There F k s) → value none F s ≡ t.what
  unfolding value
  there_value none t = rw t.is

module _ {A : Type 0} (F : Form A) where
  pub none_taken : (s : List ℕ) → F.read s ≡ nothing → taken F s ≡ 0
  unfolding taken
  none_taken s e = rw e

  pub none_value : (none : A) (s : List ℕ) → F.read s ≡ nothing → value none F s ≡ none
  unfolding value
  none_value none s e = rw e

-- what the code answers: as many bytes as the form takes, and no more than there are
abbrev pub Spans : {A : Type 0} → Form A → List ℕ → ℕ → Type 0
Spans F s k = (k ≡ taken F s) × (k ≤ length s)

module _ {A : Type 0} (F : Form A) where
  pub there_spans : {k : ℕ} {s : List ℕ} → There F k s → Spans F s k
  there_spans t = (sym (there_taken t), t.long)

  pub none_spans : (s : List ℕ) → F.read s ≡ nothing → Spans F s 0
  none_spans s e = (sym (none_taken F s e), omega arith)

-- ---- forms of a fixed size
pub takes_there : {A : Type 0} {n : ℕ} {F : Form A} → Lawful F → Takes n F → (s : List ℕ) → Bytes s → n ≤ length s → There F n s
takes_there {n = n} {F = F} L Z s b h =
    let r = Z.reads s b h in
    let d = (rest_is L Z.sized s r.value r.rest r.is).0 in
    record { what = r.value; is = r.is ∙ ap (λ (t : List ℕ). found r.value t) d; long = h }

-- ---- two letters before a body
module _ {A : Type 0} (m : Letters) (F : Form A) where
  pub letters_there : {k : ℕ} (s : List ℕ) → stands m s ≡ true → There F k (drop 2 s) → There (letters m F) (2 + k) s
  letters_there {k} [] h t = absurd (never false h refl)
  letters_there {k} (x ∷ []) h t = absurd (never false h refl)
  letters_there {k} (x ∷ y ∷ s) h t = record { what = t.what; is = rw (h, ← drop-drop k 2 (x ∷ y ∷ s)) t.is; long = omega (arith, t.long) }

  pub letters_not : (s : List ℕ) → stands m s ≡ false → (letters m F).read s ≡ nothing
  letters_not [] h = refl
  letters_not (x ∷ []) h = refl
  letters_not (x ∷ y ∷ s) h = rw h

  either_way : (v : Bool) (x : Found A) → x ≡ nothing → (if v then x else nothing) ≡ nothing
  either_way true x e = e
  either_way false x e = refl

  pub letters_nothing : (s : List ℕ) → F.read (drop 2 s) ≡ nothing → (letters m F).read s ≡ nothing
  letters_nothing [] e = refl
  letters_nothing (x ∷ []) e = refl
  letters_nothing (x ∷ y ∷ s) e = either_way (stands m (x ∷ y ∷ s)) (F.read s) e

-- ---- a count before values
module _ {A : Type 0} (least most : ℕ) (F : Form A) where
  pub counted_there : {k : ℕ} (s : List ℕ) → 1 ≤ length s → leb least (get_or s 0 0) and leb (get_or s 0 0) most ≡ true → There (times (get_or s 0 0) F) k (drop 1 s) → There (counted least most F) (1 + k) s
  counted_there {k} [] l h t = absurd (omega arith)
  counted_there {k} (c ∷ s) l h t = record { what = t.what; is = rw (h, ← drop-drop k 1 (c ∷ s)) t.is; long = omega (arith, t.long) }

  pub counted_not : (s : List ℕ) → leb least (get_or s 0 0) and leb (get_or s 0 0) most ≡ false → (counted least most F).read s ≡ nothing
  counted_not [] h = refl
  counted_not (c ∷ s) h = rw h

  pub counted_nothing : (s : List ℕ) → (times (get_or s 0 0) F).read (drop 1 s) ≡ nothing → (counted least most F).read s ≡ nothing
  counted_nothing [] e = refl
  counted_nothing (c ∷ s) e = by (leb least c and leb c most)
    where
      by : (v : Bool) → (if v then (times c F).read s else nothing) ≡ nothing
      by true = e
      by false = refl

-- ---- a form for some values only
module _ {A : Type 0} (test : A → Bool) {F : Form A} {k : ℕ} {s : List ℕ} (t : There F k s) where
  pub only_there : test t.what ≡ true → There (only test F) k s
  only_there h = record { what = t.what; is = rw (t.is, h); long = t.long }

  pub only_not : test t.what ≡ false → (only test F).read s ≡ nothing
  only_not h = rw (t.is, h)

pub only_nothing : {A : Type 0} (test : A → Bool) (F : Form A) (s : List ℕ) → F.read s ≡ nothing → (only test F).read s ≡ nothing
only_nothing test F s e = rw e

-- ---- one of two forms
module _ {A : Type 0} (F G : Form A) (s : List ℕ) where
  pub first_there : {k : ℕ} → There F k s → There (F or_else G) k s
  first_there t = record { what = t.what; is = rw t.is; long = t.long }

  pub second_there : {k : ℕ} → F.read s ≡ nothing → There (only (λ a. not (F.writes a)) G) k s → There (F or_else G) k s
  second_there e t = record { what = t.what; is = rw e t.is; long = t.long }

  pub first_is : {a : A} {rest : List ℕ} → F.read s ≡ found a rest → (F or_else G).read s ≡ found a rest
  first_is e = rw e

  pub second_is : {a : A} {rest : List ℕ} → F.read s ≡ nothing → G.read s ≡ found a rest → F.writes a ≡ false → (F or_else G).read s ≡ found a rest
  second_is e g w = rw (e, g, w)

  pub neither : F.read s ≡ nothing → (only (λ a. not (F.writes a)) G).read s ≡ nothing → (F or_else G).read s ≡ nothing
  neither e g = rw e g

-- ---- a record that may be left out
module _ {A : Type 0} (none : A) (m : Letters) (F : Form A) (s : List ℕ) where
  pub not_left_out : {k : ℕ} → There (there m F) k s → taken (unless_zero none m F) s ≡ k
  not_left_out {k} t =
      let u : There (unless_zero none m F) k s = record { what = t.what; is = rw t.is; long = t.long } in
      there_taken u

  pub left_out_taken : (there m F).read s ≡ nothing → taken (unless_zero none m F) s ≡ 0
  left_out_taken e =
      let u : There (unless_zero none m F) 0 s = record { what = none; is = rw e; long = omega arith } in
      there_taken u

-- what was read was written as the bytes that are there
pub written_bytes : {A : Type 0} {n : ℕ} {F : Form A} → Lawful F → Size n F → (s : List ℕ) (t : There F n s) → (F.writes t.what ≡ true) × (F.written t.what ≡ take n s)
written_bytes {n = n} {F = F} L Z s t =
    let o = L.one s t.what (drop n s) t.is in
    (o.0, sym (ap (take n) o.1 ∙ take_at (F.written t.what) (drop n s) n (Z.size t.what o.0)))
