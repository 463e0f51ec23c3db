-- (02, Req 02) Where each event leads, the watch is what its code says: an equation of two lists that antt computes. Assumes nothing.
use Rattle.std.specs.Prelude.{if◌then◌else◌}
use Prim.Native.Nat.{ℕ, ◌-◌}
use mathlib.Core.Bool.{Bool, false, not}
use mathlib.Core.Path.{◌≡◌, refl}
use lib.Dec.{eqb}
use Rattle.words.specs.Words.{◌and◌, ◌or◌}
use Rattle.rulebook.specs.Situation.{Watch, Situation, any_exit_route, none_occupied}
use Rattle.rulebook.specs.Checks.{effect}
use Rattle.rulebook.specs.Place.{Place}
use Rattle.rulebook.specs.Events.{brings_to_0}
use Rattle.rulebook.specs.Table.{Kind, Freed, table, kind_of}
use Rattle.rulebook.proofs.InTable.{Known, by_equation, at_code}
use Rattle.rulebook.specs.Laws.{exit_route_set, section_becoming_occupied, a_second_passed}

-- by the code and what is asked there: unexpected, an exit route set, the count brought to 0, no section left
abbrev pub ruled : ℕ → Watch → Bool → Bool → Bool → Bool → Watch
ruled code w stray routed last clears = record {
  mark =
      if exit_route_set code then false else
      if section_becoming_occupied code then w.mark or (stray and not routed) else
      if a_second_passed code then w.mark and not last else
      w.mark;
  count =
      if exit_route_set code or section_becoming_occupied code then 0 else
      if eqb code Freed.code and clears and w.mark and not routed then 10 else
      if a_second_passed code then w.count - 1 else
      w.count;
}

pub own_rule : (at : Place) (x : Situation) (c : ℕ) → Known c
    → (effect ((kind_of c).row at x)).traffic.track.watch
    ≡ ruled (kind_of c).code x.traffic.track.watch (not at.expected) (any_exit_route x) (brings_to_0 at x) (none_occupied (effect ((kind_of c).row at x)).traffic.track)
own_rule at x =
    let found : Kind → Watch = λ k. (effect (k.row at x)).traffic.track.watch in
    let rule : Kind → Watch = λ k. ruled k.code x.traffic.track.watch (not at.expected) (any_exit_route x) (brings_to_0 at x) (none_occupied (effect (k.row at x)).traffic.track) in
    at_code (λ k. found k ≡ rule k) (by_equation found rule table refl)
