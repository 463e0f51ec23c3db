-- Forms of a fixed size: how many bytes they write, and that they read any so many bytes. Assumes nothing.
use Prim.Native.Nat.{ℕ, zero, suc, ◌+◌, ◌*◌, ◌/◌, ◌≤◌, ◌<◌}
use mathlib.Core.Path.{◌≡◌, refl, sym, ap, ◌∙◌}
use mathlib.Core.Bool.{Bool, true}
use mathlib.Core.List.{List, [], ◌∷◌, ◌++◌}
use native.Mathlib.Omega.{arith}
use borrow.Author.Tests.{eqb-true, lt-ltb}
use lib.ListN.{length, drop, get_or, length-append, length-drop}
use lib.Seq.{drop_at, get_or-drop}
use lib.Dec.{eqb}
use Rattle.forms.specs.Form.{Found, nothing, found, Form}
use Rattle.forms.specs.Compose.{byte, only, ◌⊗◌, all, each_written, field_written, section, named}
use Rattle.forms.specs.Choices.{left_out, times, all_zero}
use Rattle.forms.specs.Laws.{Lawful, Alone}
use Rattle.forms.proofs.Reading.{both, same_value}

-- each element is a byte, as of every slice of bytes
abbrev pub Bytes : List ℕ → Type 0
Bytes s = (i : ℕ) → get_or s i 0 < 256

pub bytes_on : (n : ℕ) (s : List ℕ) → Bytes s → Bytes (drop n s)
bytes_on n s h i = rw (get_or-drop n s i 0) (h (n + i))

-- ---- every form that is written has n bytes
pub record Size {A : Type 0} (n : ℕ) (F : Form A) : Type 0 where
  pub size : (a : A) → F.writes a ≡ true → length (F.written a) ≡ n

module _ {A : Type 0} {n : ℕ} {F : Form A} (L : Lawful F) (Z : Size n F) where
  -- what is read is followed by what stands n bytes on
  pub rest_is : (s : List ℕ) (a : A) (rest : List ℕ) → F.read s ≡ found a rest → (rest ≡ drop n s) × (n ≤ length s)
  rest_is s a rest e =
      let o = L.one s a rest e in
      let z = Z.size a o.0 in
      (sym (ap (drop n) o.1 ∙ drop_at (F.written a) rest n z), rw o.1 (omega (arith, length-append (F.written a) rest)))

  pub short_reads_nothing : (s : List ℕ) → length s < n → F.read s ≡ nothing
  short_reads_nothing s h = by (F.read s) refl
    where
      by : (x : Found A) → F.read s ≡ x → F.read s ≡ nothing
      by nothing e = e
      by (found a rest) e = absurd (omega (arith, (rest_is s a rest e).1))

  zeros_same : (s t : List ℕ) → length s ≡ length t → all_zero s ≡ true → all_zero t ≡ true → s ≡ t
  zeros_same [] [] h p q = refl
  zeros_same [] (y ∷ t) h p q = absurd (omega arith)
  zeros_same (x ∷ s) [] h p q = absurd (omega arith)
  zeros_same (x ∷ s) (y ∷ t) h p q =
      let a = both (eqb x 0) (all_zero s) p in
      let b = both (eqb y 0) (all_zero t) q in
      rw (eqb-true x 0 a.0, eqb-true y 0 b.0, zeros_same s t (omega arith) a.1 b.1)

  -- so one value only is written as zeros
  pub size_alone : (none : A) → F.writes none ≡ true → all_zero (F.written none) ≡ true → Alone none F
  size_alone none w z = record {
    none_writes = w;
    none_zero = z;
    only_none = λ a v y.
        let e = zeros_same (F.written none) (F.written a) (Z.size none w ∙ sym (Z.size a v)) z y in
        same_value (sym (L.back none [] w) ∙ ap (λ (s : List ℕ). F.read (s ++ [])) e ∙ L.back a [] v);
  }

-- ---- any n bytes are read
pub record Reads {A : Type 0} (F : Form A) (s : List ℕ) : Type 0 where
  pub value : A
  pub rest : List ℕ
  pub is : F.read s ≡ found value rest

pub record Takes {A : Type 0} (n : ℕ) (F : Form A) : Type 0 where
  pub sized : Size n F
  pub reads : (s : List ℕ) → Bytes s → n ≤ length s → Reads F s

byte_reads : (s : List ℕ) → Bytes s → 1 ≤ length s → Reads byte s
byte_reads [] b h = absurd (omega arith)
byte_reads (x ∷ s) b h = record { value = x; rest = s; is = refl }

pub byte_takes : Takes 1 byte
byte_takes = record { sized = record { size = λ a h. refl }; reads = byte_reads }

pub left_out_takes : (v : ℕ) → Takes 0 (left_out v)
left_out_takes v = record { sized = record { size = λ a h. refl }; reads = λ s b h. record { value = v; rest = s; is = refl } }

pub only_size : {A : Type 0} (test : A → Bool) {n : ℕ} {F : Form A} → Size n F → Size n (only test F)
only_size test {F = F} Z = record { size = λ a h. Z.size a (both (test a) (F.writes a) h).1 }

module _ {A B : Type 0} {m n : ℕ} {F : Form A} {G : Form B} where
  pub sequence_size : Size m F → Size n G → Size (m + n) (F ⊗ G)
  sequence_size Y Z = record {
    size = λ v h.
        let w = both (F.writes v.0) (G.writes v.1) h in
        length-append (F.written v.0) (G.written v.1) ∙ rw (Y.size v.0 w.0, Z.size v.1 w.1);
  }

  pub sequence_takes : Lawful F → Takes m F → Takes n G → Takes (m + n) (F ⊗ G)
  sequence_takes L Y Z = record {
    sized = sequence_size Y.sized Z.sized;
    reads = λ s b h.
        let f = Y.reads s b (omega arith) in
        let r = (rest_is L Y.sized s f.value f.rest f.is).0 in
        let g = Z.reads f.rest (rw r (bytes_on m s b)) (rw r (omega (arith, length-drop m s))) in
        record { value = (f.value, g.value); rest = g.rest; is = rw (f.is, g.is) };
  }

module _ {A : Type 0} {n : ℕ} {F : Form A} (L : Lawful F) where
  each_size : Size n F → (items : List A) → all F.writes items ≡ true → length (each_written F items) ≡ length items * n
  each_size Z [] h = omega arith
  each_size Z (a ∷ items) h =
      let w = both (F.writes a) (all F.writes items) h in
      length-append (F.written a) (each_written F items) ∙ omega (arith, Z.size a w.0, each_size Z items w.1)

  each_reads : Takes n F → (k : ℕ) (s : List ℕ) → Bytes s → k * n ≤ length s → Reads (times k F) s
  each_reads Y zero s b h = record { value = []; rest = s; is = refl }
  each_reads Y (suc k) s b h =
      let f = Y.reads s b (omega arith) in
      let r = (rest_is L Y.sized s f.value f.rest f.is).0 in
      let g = each_reads Y k f.rest (rw r (bytes_on n s b)) (rw r (omega (arith, length-drop n s))) in
      record { value = f.value ∷ g.value; rest = g.rest; is = rw (f.is, g.is) }

  pub times_size : (k : ℕ) → Size n F → Size (k * n) (times k F)
  times_size k Z = record {
    size = λ items h.
        let w = both (eqb (length items) k) (all F.writes items) h in
        each_size Z items w.1 ∙ ap (λ (j : ℕ). j * n) (eqb-true (length items) k w.0);
  }

  pub times_takes : (k : ℕ) → Takes n F → Takes (k * n) (times k F)
  times_takes k Y = record { sized = times_size k Y.sized; reads = each_reads Y k }

field_size : (w m : ℕ) → length (field_written w m) ≡ w
field_size zero m = refl
field_size (suc w) m = omega (arith, field_size w (m / 256))

field_reads : (w : ℕ) (s : List ℕ) → Bytes s → w ≤ length s → Reads (section w) s
field_reads zero s b h = record { value = 0; rest = s; is = refl }
field_reads (suc w) [] b h = absurd (omega arith)
field_reads (suc w) (x ∷ s) b h =
    let g = field_reads w s (λ i. b (suc i)) (omega arith) in
    record { value = x + 256 * g.value; rest = g.rest; is = rw (lt-ltb x 256 (b 0), g.is) }

pub section_takes : (w : ℕ) → Takes w (section w)
section_takes w = record { sized = record { size = λ a h. field_size w a }; reads = field_reads w }

module _ {A B : Type 0} (make : A → B) (parts : B → A) {n : ℕ} {F : Form A} where
  pub named_size : Size n F → Size n (named make parts F)
  named_size Z = record { size = λ b h. Z.size (parts b) h }

  pub named_takes : Takes n F → Takes n (named make parts F)
  named_takes Z = record {
    sized = named_size Z.sized;
    reads = λ s b h. let f = Z.reads s b h in record { value = make f.value; rest = f.rest; is = rw f.is };
  }
