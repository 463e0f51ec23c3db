-- What is proved of the words: every sound situation is the one of some words of the code.
use Rattle.std.specs.Prelude.{◌^◌, ◌<◌, ◌≡◌, T}
use Rattle.block.specs.Line.{is_plan}
use Rattle.block.specs.declared.line.Plan.{Plan}
use Rattle.rulebook.specs.Situation.{Kept}
use Rattle.rulebook.specs.Sound.{sound}
use Rattle.situation.specs.Packed.{unpacked}
use Rattle.situation.specs.declared.Situation.{Situation as Packed}

pub record Fits (w : Packed) : Type 0 where
  pub flags : w.flags < 2 ^ 64
  pub occupied : w.occupied < 2 ^ 64
  pub heldb : w.signals.heldb < 2 ^ 64
  pub helda : w.signals.helda < 2 ^ 64

abbrev pub HasWords : Type 0
HasWords = (p : Plan) → T (is_plan p) → (x : Kept) → T (sound p x) → (w : Packed) × Fits w × (unpacked w ≡ x)
