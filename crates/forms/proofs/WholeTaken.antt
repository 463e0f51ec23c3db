-- A form that is read to the end, told by how many bytes it takes. Assumes nothing.
use Prim.Native.Nat.{ℕ, ◌<◌, ◌≤◌}
use mathlib.Core.Path.{◌≡◌}
use mathlib.Core.List.{List}
use lib.ListN.{length, drop_of_length-le}
use lib.Seq.{drop-cons}
use Rattle.forms.specs.declared.Letters.{Letters}
use Rattle.forms.specs.Form.{Form}
use Rattle.forms.specs.Laws.{Lettered}
use Rattle.forms.specs.Whole.{refused, accepted, whole}
use Rattle.forms.specs.Taken.{taken}
use Rattle.forms.proofs.Taken.{There}
use Rattle.forms.proofs.InTurn.{not_there}

module _ {A : Type 0} {ms : List Letters} {F : Form A} (K : Lettered ms F) (s : List ℕ) where
  pub none_whole : taken F s ≡ 0 → whole F s ≡ refused
  unfolding whole
  none_whole z = rw (not_there K s z)

  pub more_than_whole : {k : ℕ} → There F k s → k < length s → whole F s ≡ refused
  unfolding whole
  more_than_whole {k} t h = rw (t.is, drop-cons s k 0 h)

  pub whole_there : {k : ℕ} (t : There F k s) → length s ≤ k → whole F s ≡ accepted t.what
  unfolding whole
  whole_there t h = rw (t.is, drop_of_length-le s h)
