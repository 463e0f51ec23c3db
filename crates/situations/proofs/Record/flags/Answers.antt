use Rattle.records.specs.InBytes.{codes_at}
use Rattle.situations.specs.InWords.{in_words}
use Rattle.situations.proofs.Record.flags.Goals as goal

pub returns : goal.returns
unfolding in_words codes_at
returns c =
    rw (c.flags_word.ensures, c.line.ensures.value, c.station_word-other.ensures.0, c.bits_word-bits-2.ensures.0, c.station_word-own.ensures.0, c.bits_word-bits.ensures.0)
