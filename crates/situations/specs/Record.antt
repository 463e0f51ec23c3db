-- A reader need not believe this file: the codes of a record as the code takes it apart.
use Rattle.std.specs.Prelude.{get_or}
use Rattle.records.specs.Situation.{Codes}
use Rattle.records.specs.InBytes.{codes_at}
use Rattle.situations.specs.declared.Record.{Record}

abbrev pub codes_in : Record → Codes
codes_in r = record (codes_at r.bytes.now) { mark = get_or r.watch.now 0 0; count = get_or r.watch.now 1 0 }
