use Prim.Native.Nat.{ℕ}
use mathlib.Core.Path.{◌≡◌, refl, ap, ap₂, ◌∙◌}
use mathlib.Core.Bool.{Bool, true, false, not}
use lib.Dec.{eqb}
use Rattle.words.specs.Words.{◌and◌, flag}
use Rattle.situation.specs.Packed.{unpacked}
use Rattle.records.specs.Situation.{codes_of}
use Rattle.situations.proofs.both_zero.Goals as goal

no_flag : (v : Bool) → not v ≡ eqb (flag v) 0
no_flag true = refl
no_flag false = refl

pub returns : goal.returns
unfolding codes_of
returns c = ap₂ (λ (v : Bool) (n : ℕ). v and eqb n 0) (ap not c.marked.ensures ∙ no_flag (unpacked c.args.x).traffic.track.watch.mark) c.count.ensures
