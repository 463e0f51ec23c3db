-- What a copy of a form's bytes leaves. Assumes nothing.
use Prim.Native.Nat.{ℕ}
use mathlib.Core.Path.{◌≡◌, ◌∙◌}
use mathlib.Core.List.{List, ◌++◌}
use lib.ListN.{length, take, drop}
use lib.Seq.{take-length}
use Rattle.forms.specs.Form.{laid}

pub copied : (a room after : List ℕ) → after ≡ take (length a) a ++ drop (length a) room → after ≡ laid a room
copied a room after e = e ∙ rw take-length
