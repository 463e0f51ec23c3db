-- Forms, put together of forms.
use Rattle.std.specs.Prelude.{ℕ, zero, suc, ◌+◌, ◌*◌, ◌/◌, ◌%◌, ◌^◌, Bool, true, false, List, [], ◌∷◌, ◌++◌, length, eqb, leb, ltb, if◌then◌else◌}
use Rattle.words.specs.Words.{◌and◌}
use Rattle.forms.specs.declared.Letters.{Letters}
use Rattle.forms.specs.Form.{Found, nothing, found, Form, after}

infixr 30 ◌▸◌
infixr 30 ◌⊗◌
-- ---- one byte
abbrev pub byte_read : List ℕ → Found ℕ
byte_read [] = nothing
byte_read (b ∷ s) = found b s

abbrev pub byte : Form ℕ
byte = record { written = λ b. b ∷ []; read = byte_read; writes = λ b. true }

-- ---- the same form, for those values only that pass a test
abbrev pub only : {A : Type 0} → (A → Bool) → Form A → Form A
only test F = record {
  written = F.written;
  read = λ s. after (F.read s) (λ a rest. if test a then found a rest else nothing);
  writes = λ a. test a and F.writes a;
}

-- ---- one after the other; what the second is may depend on the first's value
abbrev pub ◌▸◌ : {A B : Type 0} → Form A → (A → Form B) → Form (A × B)
F ▸ G = record {
  written = λ v. F.written v.0 ++ (G v.0).written v.1;
  read = λ s. after (F.read s) (λ a rest. after ((G a).read rest) (λ b more. found (a, b) more));
  writes = λ v. F.writes v.0 and (G v.0).writes v.1;
}

abbrev pub ◌⊗◌ : {A B : Type 0} → Form A → Form B → Form (A × B)
F ⊗ G = F ▸ λ _. G

-- ---- a record: two letters, and a body
abbrev pub stands : Letters → List ℕ → Bool
stands m [] = false
stands m (x ∷ []) = false
stands m (x ∷ y ∷ s) = eqb x m.first and eqb y m.second

abbrev pub body_read : {A : Type 0} → Letters → Form A → List ℕ → Found A
body_read m F [] = nothing
body_read m F (x ∷ []) = nothing
body_read m F (x ∷ y ∷ s) = if stands m (x ∷ y ∷ s) then F.read s else nothing

abbrev pub letters : {A : Type 0} → Letters → Form A → Form A
letters m F = record { written = λ a. m.first ∷ m.second ∷ F.written a; read = body_read m F; writes = F.writes }

-- ---- n values of one form
abbrev pub all : {A : Type 0} → (A → Bool) → List A → Bool
all test [] = true
all test (a ∷ items) = test a and all test items

abbrev pub each_written : {A : Type 0} → Form A → List A → List ℕ
each_written F [] = []
each_written F (a ∷ items) = F.written a ++ each_written F items

abbrev pub each_read : {A : Type 0} → Form A → ℕ → List ℕ → Found (List A)
each_read F zero s = found [] s
each_read F (suc n) s = after (F.read s) (λ a rest. after (each_read F n rest) (λ items more. found (a ∷ items) more))

-- ---- a count, least to most, and so many values
abbrev pub counted_read : {A : Type 0} → ℕ → ℕ → Form A → List ℕ → Found (List A)
counted_read least most F [] = nothing
counted_read least most F (n ∷ s) = if leb least n and leb n most then each_read F n s else nothing

abbrev pub counted : {A : Type 0} → ℕ → ℕ → Form A → Form (List A)
counted least most F = record {
  written = λ items. length items ∷ each_written F items;
  read = counted_read least most F;
  writes = λ items. (leb least (length items) and leb (length items) most) and all F.writes items;
}

-- ---- a section field: a number of w bytes, low byte first
abbrev pub octet : Form ℕ
octet = only (λ b. ltb b 256) byte

abbrev pub field_written : ℕ → ℕ → List ℕ
field_written zero m = []
field_written (suc w) m = m % 256 ∷ field_written w (m / 256)

abbrev pub field_read : ℕ → List ℕ → Found ℕ
field_read zero s = found 0 s
field_read (suc w) s = after (octet.read s) (λ low rest. after (field_read w rest) (λ high more. found (low + 256 * high) more))

abbrev pub section : ℕ → Form ℕ
section w = record { written = field_written w; read = field_read w; writes = λ m. ltb m (2 ^ (8 * w)) }

-- ---- the same form under other names: a value of B is written as its parts, and is made of what is read
abbrev pub named : {A B : Type 0} → (A → B) → (B → A) → Form A → Form B
named make parts F = record {
  written = λ b. F.written (parts b);
  read = λ s. after (F.read s) (λ a rest. found (make a) rest);
  writes = λ b. F.writes (parts b);
}
