-- In a sound situation not both stations are oriented out: with link up one is out and one in, or both are none; with link down not both are out.
-- Assumes nothing.
use mathlib.Core.Bool.{not}
use Rattle.words.proofs.Tests.{fails_is}
use Rattle.rulebook.proofs.Every.{everywhere_at}
use Rattle.rulebook.proofs.SoundnessKept.{parts}
use Rattle.rulebook.specs.Situation.{both_out}
use Rattle.rulebook.specs.Laws.{NotBothOut}

pub not_both_out : NotBothOut
not_both_out p x t = fails_is (both_out x) (everywhere_at (λ y. not (both_out y)) x tt (parts p x t).stations)
