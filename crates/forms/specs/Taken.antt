-- A reader need not believe this file: where a form is read off the front of bytes, whether it is there, how many bytes it takes, and its value.
use Rattle.std.specs.Prelude.{ℕ, ◌-◌, Bool, true, false, List, length}
use Rattle.forms.specs.Form.{Found, nothing, found, Form}

abbrev pub is_found : {A : Type 0} → Found A → Bool
is_found nothing = false
is_found (found a rest) = true

-- how many of so many bytes are not left
abbrev pub used_of : {A : Type 0} → ℕ → Found A → ℕ
used_of size nothing = 0
used_of size (found a rest) = size - length rest

abbrev pub value_of : {A : Type 0} → A → Found A → A
value_of none nothing = none
value_of none (found a rest) = a

unfoldable pub reads : {A : Type 0} → Form A → List ℕ → Bool
reads F s = is_found (F.read s)

-- 0 where it is not there
unfoldable pub taken : {A : Type 0} → Form A → List ℕ → ℕ
taken F s = used_of (length s) (F.read s)

-- the value none where it is not there
unfoldable pub value : {A : Type 0} → A → Form A → List ℕ → A
value none F s = value_of none (F.read s)
