-- (02, Req 02) While a count runs the line is not free, and a section that becomes occupied turns no orientation. Assumes nothing.
use Rattle.std.specs.Prelude.{if◌then◌else◌}
use Prim.Native.Nat.{ℕ}
use mathlib.Core.Bool.{Bool, true, false, not}
use mathlib.Core.Path.{◌≡◌, refl, ap, ◌∙◌}
use borrow.Author.Tests.{eqb-true, eqb-false}
use lib.Dec.{eqb}
use Rattle.words.specs.Words.{◌and◌}
use Rattle.words.proofs.Tests.{and_false}
use Rattle.rulebook.specs.Situation.{Track, Situation, Kept, out, inward, seen_from, station, any_exit_route, count_runs, none_occupied, ◌is_in}
use Rattle.rulebook.specs.Place.{Place, place}
use Rattle.rulebook.specs.Events.{turns}
use Rattle.rulebook.specs.Table.{Occupied, kind_of}
use Rattle.rulebook.specs.Apply.{led_at, event, spot, reached, applied}
use Rattle.block.specs.declared.line.Plan.{Plan}
use Rattle.block.specs.declared.line.Name.{Name}
use Rattle.block.specs.declared.line.Name.TheVariants.{StationA, StationB}
use Rattle.block.specs.declared.event.Event.{Event}
use Rattle.rulebook.proofs.WhenAccepted.{when_accepted}
use Rattle.rulebook.proofs.StationsKept.{next}
use Rattle.rulebook.proofs.RefusedUnchanged.{refused_unchanged}
use Rattle.rulebook.proofs.WatchRight.{track_seen}
use Rattle.rulebook.specs.Laws.{CountKeepsLine, CountKeepsOrientations}

pub count_keeps_line : CountKeepsLine
count_keeps_line x runs =
    ap (λ (r : Bool). x.traffic.link and (none_occupied x.traffic.track and not r) and not (any_exit_route x)) runs
    ∙ ap (λ (v : Bool). x.traffic.link and v and not (any_exit_route x)) (and_false (none_occupied x.traffic.track))
    ∙ ap (λ (v : Bool). v and not (any_exit_route x)) (and_false x.traffic.link)

-- seen twice, a station is as it was
back : (own s : Name) (x y : Situation) → y.traffic.own.orientation ≡ (seen_from own x).traffic.own.orientation → y.traffic.other.orientation ≡ (seen_from own x).traffic.other.orientation
    → (station (seen_from own y) s).orientation ≡ (station x s).orientation
back StationA StationA x y e f = e
back StationA StationB x y e f = f
back StationB StationA x y e f = f
back StationB StationB x y e f = e

module _ (p : Plan) (x : Kept) (k : ℕ) (runs : count_runs x.traffic.track.watch ≡ true) (s : Name) where
  abbrev e : Event
  e = event Occupied.code k

  abbrev own : Name
  own = (spot p e).own

  abbrev seen : Situation
  seen = seen_from own x

  abbrev here : Place
  here = place (spot p e) seen

  not_turned : turns here seen ≡ false
  not_turned =
      ap (λ (v : Bool). here.first and (seen.traffic.own is_in) and v) (count_keeps_line seen (ap (λ (t : Track). count_runs t.watch) (track_seen own x) ∙ runs))
      ∙ and_false (here.first and (seen.traffic.own is_in))

  reached_so : (station (reached p x e) s).orientation ≡ (station x s).orientation
  unfolding led_at
  reached_so =
      back own s x (next (kind_of Occupied.code) here seen)
      (ap (λ (v : Bool). if v then out else seen.traffic.own.orientation) not_turned)
      (ap (λ (v : Bool). if v then inward else seen.traffic.other.orientation) not_turned)

  -- a refused event hands the situation back
  either_way : (v : Bool) → eqb (applied p x e).refusal 0 ≡ v → (station (applied p x e).next s).orientation ≡ (station x s).orientation
  either_way true h = when_accepted p x e (λ (y : Kept). (station y s).orientation ≡ (station x s).orientation) (λ k r a. reached_so) (eqb-true (applied p x e).refusal 0 h)
  either_way false h = ap (λ (y : Kept). (station y s).orientation) (refused_unchanged p x e (eqb-false (applied p x e).refusal 0 h))

pub count_keeps_orientations : CountKeepsOrientations
count_keeps_orientations p x k runs s = either_way p x k runs s (eqb (applied p x (event Occupied.code k)).refusal 0) refl
