-- The clauses in the order in which they are asked. Assumes nothing.
use mathlib.Core.Path.{sym, ap, ◌∙◌}
use Rattle.rulebook.specs.Sound.{station_sound}
use Rattle.soundness.proofs.SoundLaws.{watch_fails, pending_fails, orientations_fail, other_decides, sets_fail, stations_decide}
use Rattle.situation.specs.Packed.{unpacked}
use Rattle.soundness.proofs.sound_in_2024.Goals as goal

pub returns-then-not-watch_sound : goal.returns-then-not-watch_sound
returns-then-not-watch_sound c = let a = c.args in watch_fails a.plan (unpacked a.x) (sym c.watch_sound.ensures ∙ c.if-not-watch_sound.true)

pub returns-then-not-sets_sound : goal.returns-then-not-sets_sound
returns-then-not-sets_sound c = let a = c.args in sets_fail a.plan (unpacked a.x) (sym c.sets_sound.ensures ∙ c.if-not-sets_sound.true)

pub returns-then-not-pending_sound : goal.returns-then-not-pending_sound
returns-then-not-pending_sound c =
    let a = c.args in
    pending_fails (unpacked a.x) (sym c.pending_sound.ensures ∙ c.if-not-pending_sound.true)
    ∙ stations_decide a.plan (unpacked a.x) (sym c.watch_sound.ensures ∙ c.if-not-watch_sound.false) (sym c.sets_sound.ensures ∙ c.if-not-sets_sound.false)

pub returns-then-not-orientations_sound : goal.returns-then-not-orientations_sound
returns-then-not-orientations_sound c =
    let a = c.args in
    orientations_fail (unpacked a.x) (sym c.orientations_sound.ensures ∙ c.if-not-orientations_sound.true)
    ∙ stations_decide a.plan (unpacked a.x) (sym c.watch_sound.ensures ∙ c.if-not-watch_sound.false) (sym c.sets_sound.ensures ∙ c.if-not-sets_sound.false)

pub returns : goal.returns
returns c =
    let a = c.args in
    c.station_sound-2.ensures ∙ ap station_sound c.other.ensures
    ∙ other_decides (unpacked a.x)
    (sym c.pending_sound.ensures ∙ c.if-not-pending_sound.false)
    (sym c.orientations_sound.ensures ∙ c.if-not-orientations_sound.false)
    (ap station_sound (sym c.own.ensures) ∙ sym c.station_sound.ensures ∙ c.if-not-station_sound.false)
    ∙ stations_decide a.plan (unpacked a.x) (sym c.watch_sound.ensures ∙ c.if-not-watch_sound.false) (sym c.sets_sound.ensures ∙ c.if-not-sets_sound.false)
