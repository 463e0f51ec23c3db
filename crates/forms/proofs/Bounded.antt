-- Forms that write at most so many bytes: how many follows from how they are put together. Assumes nothing.
use Rattle.std.specs.Prelude.{if◌then◌else◌}
use Prim.Native.Nat.{ℕ, ◌+◌, ◌*◌, ◌≤◌, ◌<◌}
use mathlib.Core.Path.{◌≡◌, refl, ap}
use mathlib.Core.Bool.{Bool, true, false}
use mathlib.Core.List.{List, [], ◌∷◌}
use native.Mathlib.Omega.{arith}
use native.Mathlib.Nat.{mul-le-mul}
use borrow.Author.Tests.{leb-true}
use lib.ListN.{length, length-append}
use lib.Dec.{leb}
use Rattle.words.specs.Words.{◌and◌, ◌or◌}
use Rattle.forms.specs.declared.Letters.{Letters}
use Rattle.forms.specs.Form.{Form}
use Rattle.forms.specs.Compose.{◌▸◌, letters, all, each_written, counted, named}
use Rattle.forms.specs.Choices.{◌or_else◌}
use Rattle.forms.specs.Whole.{Whole, refused, accepted, whole}
use Rattle.forms.specs.Laws.{Lawful}
use Rattle.forms.proofs.Reading.{both}
use Rattle.forms.proofs.Sizes.{Size}
use Rattle.forms.proofs.Whole.{one_form}

pub record Bounded {A : Type 0} (n : ℕ) (F : Form A) : Type 0 where
  pub bounded : (a : A) → F.writes a ≡ true → length (F.written a) ≤ n

-- a byte, a section field: any form of a fixed size
pub size_bounded : {A : Type 0} {n : ℕ} {F : Form A} → Size n F → Bounded n F
size_bounded Z = record { bounded = λ a h. omega (arith, Z.size a h) }

pub sequence_bounded : {A B : Type 0} {m n : ℕ} {F : Form A} {G : A → Form B} → Bounded m F → ((a : A) → Bounded n (G a)) → Bounded (m + n) (F ▸ G)
sequence_bounded {F = F} {G = G} Y Z = record {
  bounded = λ v h.
      let w = both (F.writes v.0) ((G v.0).writes v.1) h in
      omega (arith, length-append (F.written v.0) ((G v.0).written v.1), Y.bounded v.0 w.0, (Z v.0).bounded v.1 w.1);
}

pub letters_bounded : {A : Type 0} (m : Letters) {n : ℕ} {F : Form A} → Bounded n F → Bounded (2 + n) (letters m F)
letters_bounded m Z = record { bounded = λ a h. omega (arith, Z.bounded a h) }

pub named_bounded : {A B : Type 0} (make : A → B) (parts : B → A) {n : ℕ} {F : Form A} → Bounded n F → Bounded n (named make parts F)
named_bounded make parts Z = record { bounded = λ b h. Z.bounded (parts b) h }

-- the second of two forms is the longer one
pub choice_bounded : {A : Type 0} {m n : ℕ} {F G : Form A} → m ≤ n → Bounded m F → Bounded n G → Bounded n (F or_else G)
choice_bounded {n = n} {F = F} {G = G} l Y Z = record { bounded = λ a h. by a (F.writes a) refl h }
  where
    by : (a : _) (v : Bool) → F.writes a ≡ v → v or G.writes a ≡ true → length (if v then F.written a else G.written a) ≤ n
    by a true e h = omega (arith, l, Y.bounded a e)
    by a false e h = Z.bounded a h

module _ {A : Type 0} {n : ℕ} {F : Form A} (Z : Bounded n F) where
  each_bounded : (items : List A) → all F.writes items ≡ true → length (each_written F items) ≤ length items * n
  each_bounded [] h = omega arith
  each_bounded (a ∷ items) h =
      let w = both (F.writes a) (all F.writes items) h in
      omega (arith, length-append (F.written a) (each_written F items), Z.bounded a w.0, each_bounded items w.1)

  pub counted_bounded : (least most : ℕ) → Bounded (1 + most * n) (counted least most F)
  counted_bounded least most = record {
    bounded = λ items h.
        let w = both (leb least (length items) and leb (length items) most) (all F.writes items) h in
        let l = leb-true (length items) most (both (leb least (length items)) (leb (length items) most) w.0).1 in
        let k : length items * n ≤ most * n = mul-le-mul l (omega arith) in
        omega (arith, k, each_bounded items w.1);
  }

-- ---- what is read to the end
module _ {A : Type 0} {n : ℕ} {F : Form A} (L : Lawful F) (Z : Bounded n F) where
  pub accepted_bounded : (s : List ℕ) (a : A) → whole F s ≡ accepted a → length s ≤ n
  accepted_bounded s a e = let o = one_form L s a e in omega (arith, Z.bounded a o.0, ap length o.1)

  pub longer_is_refused : (s : List ℕ) → n < length s → whole F s ≡ refused
  longer_is_refused s h = by (whole F s) refl
    where
      by : (x : Whole A) → whole F s ≡ x → whole F s ≡ refused
      by refused e = e
      by (accepted a) e = absurd (omega (arith, accepted_bounded s a e))
