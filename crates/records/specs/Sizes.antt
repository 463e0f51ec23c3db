-- A reader need not believe this file: how many bytes the code finds, in its words. proofs/ show that the forms take as many.
use Rattle.std.specs.Prelude.{ℕ, ◌≡◌, ◌+◌, ◌*◌, ◌≤◌, ◌<◌, Bool, true, false, List, Option, None, Some, length, get_or, leb, if◌then◌else◌}
use Rattle.words.specs.Words.{◌and◌}
use Rattle.forms.specs.declared.Letters.{Letters}
use Rattle.forms.specs.Compose.{stands}
use Rattle.forms.specs.Whole.{Whole, refused, accepted}

-- what the code answers of a record that takes n bytes at the front of s: None where n is 0, since a record has its letters
abbrev pub IsExtent : ℕ → List ℕ → Option ℕ → Type 0
IsExtent n s None = n ≡ 0
IsExtent n s (Some k) = (k ≡ n) × (0 < k) × (k ≤ length s)

-- whether a form was read to the end
abbrev pub is_accepted : {A : Type 0} → Whole A → Bool
is_accepted refused = false
is_accepted (accepted a) = true

-- the letters stand at the front, with at least so many bytes after them
unfoldable pub stands_with : Letters → ℕ → List ℕ → Bool
stands_with m size s = stands m s and leb (2 + size) (length s)

unfoldable pub fixed : Letters → ℕ → List ℕ → ℕ
fixed m size s = if stands_with m size s then 2 + size else 0

unfoldable pub counted : Letters → ℕ → ℕ → ℕ → List ℕ → ℕ
counted m least most width s =
    if stands_with m 1 s and (leb least (get_or s 2 0) and leb (get_or s 2 0) most and leb (3 + width * get_or s 2 0) (length s))
    then 3 + width * get_or s 2 0
    else 0
