-- A value that stands for itself without a byte, or as a byte that is always the same, and one of two forms, as SI and SJ are (02, Req 02) and LB and LC
-- (02, Req 05). What is left out where it is zero, and so many values, no record uses yet.
use Rattle.std.specs.Prelude.{ℕ, Bool, true, not, List, [], ◌∷◌, length, eqb, if◌then◌else◌}
use Rattle.words.specs.Words.{◌and◌, ◌or◌}
use Rattle.forms.specs.declared.Letters.{Letters}
use Rattle.forms.specs.Form.{Found, nothing, found, Form}
use Rattle.forms.specs.Compose.{byte, only, letters, all, each_written, each_read}

infixr 25 ◌or_else◌
-- no byte: the value is always v
abbrev pub left_out : ℕ → Form ℕ
left_out v = record { written = λ b. []; read = λ s. found v s; writes = λ b. eqb b v }

-- one byte that is always v
abbrev pub always : ℕ → Form ℕ
always v = only (λ b. eqb b v) byte

-- ---- one of two forms: the second exactly where the first cannot write the value
abbrev pub second_read : {A : Type 0} → Found A → Form A → Form A → List ℕ → Found A
second_read nothing F G s = (only (λ a. not (F.writes a)) G).read s
second_read (found a rest) F G s = found a rest

abbrev pub ◌or_else◌ : {A : Type 0} → Form A → Form A → Form A
F or_else G = record {
  written = λ a. if F.writes a then F.written a else G.written a;
  read = λ s. second_read (F.read s) F G s;
  writes = λ a. F.writes a or G.writes a;
}

-- ---- a record that is left out exactly when all of its body is zero; then it stands for the value none
abbrev pub all_zero : List ℕ → Bool
all_zero [] = true
all_zero (b ∷ s) = eqb b 0 and all_zero s

abbrev pub there_read : {A : Type 0} → Found A → A → List ℕ → Found A
there_read nothing none s = found none s
there_read (found a rest) none s = found a rest

abbrev pub there : {A : Type 0} → Letters → Form A → Form A
there m F = only (λ a. not (all_zero (F.written a))) (letters m F)

abbrev pub unless_zero : {A : Type 0} → A → Letters → Form A → Form A
unless_zero none m F = record {
  written = λ a. if all_zero (F.written a) then [] else (letters m F).written a;
  read = λ s. there_read ((there m F).read s) none s;
  writes = F.writes;
}

abbrev pub times : {A : Type 0} → ℕ → Form A → Form (List A)
times n F = record {
  written = each_written F;
  read = each_read F n;
  writes = λ items. eqb (length items) n and all F.writes items;
}
