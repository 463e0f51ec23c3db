-- The marked examples hold: each row is computed, and example 10 is the theorem over every float. Assumes nothing.
use mathlib.Core.Path.{refl}
use lib.Ieee.{round}
use Rattle.rulebook.specs.Apply.{refusal_at, led_at, acted, stepped}
use Rattle.rulebook.specs.Names.{lowest_from}
use Rattle.aspects.specs.Aspects.{shows}
use Rattle.signals.specs.Readings.{value_read}
use Rattle.marking.specs.Sheet.{marked}
use Rattle.marking.proofs.ExampleTen.{no_float_is_right}
use Rattle.examples.specs.Examples.{All, Holds, table}

pub examples_hold : All table
unfolding refusal_at led_at acted stepped lowest_from shows value_read marked round All Holds
examples_hold =
    (tt, (tt, (tt, (tt, (tt, (tt, (tt, (tt, (tt, (tt, (tt, (tt, (tt, (tt, (refl, (((tt, refl, refl), (refl, refl, refl)), (((tt, refl, refl), (refl, refl, refl)), (no_float_is_right, (tt, (tt, (tt, (tt, (tt, (tt, (tt, (tt, (tt, (tt, (tt, (tt, (tt, (refl, (refl, (refl, (refl, (refl, (refl, (refl, (tt, (tt, (tt, (tt, (tt, (tt, (tt, (tt, (tt, (tt, (tt, (tt, (tt, tt)))))))))))))))))))))))))))))))))))))))))))))))))))
