-- The promise of a call says what it leaves by an equation, so that it allows one result only.
use Prim.Native.Nat.{ℕ}
use mathlib.Core.Path.{◌≡◌, sym, ◌∙◌}
use mathlib.Core.List.{List}
use Rattle.keylaws.specs.Rules.{Rules}
use Rattle.keylaws.specs.Parts.{Part, part_after}

pub one_result : (R : Rules) (limit : ℕ) (start : R.Situation) (x room : List ℕ) (p q : Part) → p ≡ part_after R limit start x room → q ≡ part_after R limit start x room → p ≡ q
one_result R limit start x room p q e d = e ∙ sym d
