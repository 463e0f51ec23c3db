-- A reader need not believe this file: the words that the code makes of the codes of a situation, each code below the next.
use Rattle.std.specs.Prelude.{ℕ, ◌+◌, ◌*◌, ◌/◌, ◌%◌}
use Rattle.records.specs.Situation.{Codes, sections_of}
use Rattle.situation.specs.declared.Situation.{Situation as Packed}

-- the codes of a station, and its bits of BILC, BSLG, reminder and a pending SOBB
pub record StationCodes : Type 0 where
  pub orientation : ℕ
  pub annulment : ℕ
  pub exit : ℕ
  pub entry : ℕ
  pub bilc : ℕ
  pub bslg : ℕ
  pub reminder : ℕ
  pub asks : ℕ

abbrev pub bits_word : ℕ → ℕ → ℕ → ℕ → ℕ
bits_word bilc bslg reminder asks = bilc + 2 * (bslg + 2 * (reminder + 2 * asks))

abbrev pub codes_word : ℕ → ℕ → ℕ → ℕ → ℕ → ℕ
codes_word orientation annulment exit entry bits = orientation + 4 * (annulment + 4 * (exit + 4 * (entry + 2 * bits)))

abbrev pub bits_of : StationCodes → ℕ
bits_of c = bits_word c.bilc c.bslg c.reminder c.asks

abbrev pub station_word : StationCodes → ℕ
station_word c = codes_word c.orientation c.annulment c.exit c.entry (bits_of c)

-- the link, the mark and the count
abbrev pub line_word : ℕ → ℕ → ℕ → ℕ
line_word link mark count = link + 2 * (mark + 2 * count)

-- own's flags, the other's from bit 16 on, the line's from bit 32 on
abbrev pub flags_word : ℕ → ℕ → ℕ → ℕ
flags_word own other line = own + 65536 * (other + 65536 * line)

module _ (c : Codes) where
  abbrev pub codes_A : StationCodes
  codes_A = record {
    orientation = c.orientation.0;
    annulment = c.annulment.0;
    exit = c.exit.0;
    entry = c.entry.0;
    bilc = c.bilc % 2;
    bslg = c.bslg % 2;
    reminder = c.reminder % 2;
    asks = c.pending % 2;
  }

  abbrev pub codes_B : StationCodes
  codes_B = record {
    orientation = c.orientation.1;
    annulment = c.annulment.1;
    exit = c.exit.1;
    entry = c.entry.1;
    bilc = c.bilc / 2;
    bslg = c.bslg / 2;
    reminder = c.reminder / 2;
    asks = c.pending / 2;
  }

  unfoldable pub in_words : Packed
  in_words = record {
    flags = flags_word (station_word codes_A) (station_word codes_B) (line_word c.link c.mark c.count);
    occupied = sections_of c.occupied;
    signals = record { heldb = sections_of c.heldb; helda = sections_of c.helda };
  }
