use mathlib.Core.Path.{◌≡◌, refl, sym, ap, ◌∙◌}
use mathlib.Core.Bool.{true, false}
use Rattle.rulebook.specs.Situation.{Situation, with_track, with_this_watch}
use Rattle.rulebook.specs.Place.{place}
use Rattle.situation.specs.Packed.{unpacked}
use Rattle.rulebook.proofs.Settled.{stays}
use Rattle.situation.proofs.Taken.{occupied_too}
use Rattle.situation.proofs.Watched.{starts_as, starts_unmarked, starts, starts_not}
use Rattle.situation.proofs.Situation.freed.Goals as goal

pub returns-then-not-marked : goal.returns-then-not-marked
returns-then-not-marked c =
    let a = c.args in
    let x = unpacked a.self in
    let at = place a.at x in
    let unmarked : x.traffic.track.watch.mark ≡ false = sym c.marked.ensures ∙ c.if-not-marked.true in
    occupied_too x c.with_occupied-next.ensures c.without_section-left.ensures ∙ starts_not at x (starts_unmarked at x unmarked) ∙ stays x refl refl

pub returns-then-starts : goal.returns-then-starts
returns-then-starts c =
    let a = c.args in
    let x = unpacked a.self in
    let at = place a.at x in
    let marked : x.traffic.track.watch.mark ≡ true = sym c.marked.ensures ∙ c.if-not-marked.false in
    c.with_watch.ensures
    ∙ ap (λ (y : Situation). with_track (with_this_watch (record { mark = true; count = 10 }) y.traffic.track) y) (occupied_too x c.with_occupied-next.ensures c.without_section-left.ensures)
    ∙ starts at x marked (starts_as at x marked c.without_section-left.ensures c.any_exit_route.ensures c.if-starts.true)
    ∙ stays x refl refl

pub returns : goal.returns
returns c =
    let a = c.args in
    let x = unpacked a.self in
    let at = place a.at x in
    let marked : x.traffic.track.watch.mark ≡ true = sym c.marked.ensures ∙ c.if-not-marked.false in
    occupied_too x c.with_occupied-next.ensures c.without_section-left.ensures
    ∙ starts_not at x (starts_as at x marked c.without_section-left.ensures c.any_exit_route.ensures c.if-starts.false)
    ∙ stays x refl refl
