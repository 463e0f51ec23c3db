-- An area has at most one direction: it is never out and in at once. Assumes nothing.
use mathlib.Core.Bool.{not}
use Rattle.words.specs.Words.{◌and◌}
use Rattle.rulebook.specs.Situation.{area_direction}
use Rattle.rulebook.proofs.Every.{every_station_at}
use Rattle.rulebook.specs.Laws.{OneDirection}

pub one_direction : OneDirection
one_direction t = every_station_at t (λ u. not ((area_direction u).out and (area_direction u).inward)) tt
