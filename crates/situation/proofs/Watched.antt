-- The watch over a track whose sections clear, and over one that a second passes for. Assumes nothing.
use Rattle.std.specs.Prelude.{if◌then◌else◌}
use Prim.Native.Nat.{ℕ, ◌-◌, ◌%◌}
use mathlib.Core.Path.{◌≡◌, sym, ap, ap₂, ◌∙◌}
use mathlib.Core.Bool.{Bool, true, false, not}
use native.Mathlib.Nat.{mod-eq_of_lt}
use native.Mathlib.Omega.{arith}
use lib.Dec.{eqb}
use Rattle.words.specs.Words.{◌and◌}
use Rattle.words.proofs.Tests.{and_true, and_false}
use Rattle.sections.specs.Sections.{none}
use Rattle.rulebook.specs.Place.{Place}
use Rattle.rulebook.specs.Situation.{Watch, Situation, any_exit_route, with_track, with_occupied, with_this_watch}
use Rattle.rulebook.specs.Events.{still_occupied, count_starts, watch_freed}
use Rattle.rulebook.proofs.SecondPasses.{last_second, lowered}
use Rattle.situation.specs.Packed.{flags_of, unpacked}
use Rattle.situation.specs.declared.Situation.{Situation as Packed}
use Rattle.situation.proofs.CountBits.{count_small}

module _ (at : Place) (x : Situation) where
  -- as the code asks it, the mark being set
  pub starts_as : {l : ℕ} {r v : Bool} → x.traffic.track.watch.mark ≡ true → l ≡ still_occupied at x → r ≡ any_exit_route x → (eqb l none and not r) ≡ v → count_starts at x ≡ v
  starts_as {l} m d f h =
      ap₂ (λ (n : ℕ) (b : Bool). eqb n none and b and not (any_exit_route x)) (sym d) m ∙ ap (λ (b : Bool). b and not (any_exit_route x)) (and_true (eqb l none))
      ∙ ap (λ (b : Bool). eqb l none and not b) (sym f) ∙ h

  pub starts_unmarked : x.traffic.track.watch.mark ≡ false → count_starts at x ≡ false
  starts_unmarked m = ap (λ (b : Bool). eqb (still_occupied at x) none and b and not (any_exit_route x)) m ∙ ap (λ (b : Bool). b and not (any_exit_route x)) (and_false (eqb (still_occupied at x) none))

  abbrev freed_with : Watch → Situation
  freed_with w = with_track (record { occupied = still_occupied at x; watch = w }) x

  pub starts : x.traffic.track.watch.mark ≡ true → count_starts at x ≡ true → freed_with (record { mark = true; count = 10 }) ≡ freed_with (watch_freed at x)
  starts m h = ap₂ (λ (v s : Bool). freed_with (record { mark = v; count = if s then 10 else x.traffic.track.watch.count })) (sym m) (sym h)

  pub starts_not : count_starts at x ≡ false → with_track (with_occupied (still_occupied at x) x.traffic.track) x ≡ freed_with (watch_freed at x)
  starts_not h = ap (λ (s : Bool). freed_with (record { mark = x.traffic.track.watch.mark; count = if s then 10 else x.traffic.track.watch.count })) (sym h)

-- a second, as the code counts it
pub lowered_as : (at : Place) (w : Packed) {m : Bool} {n : ℕ} → m ≡ (unpacked w).traffic.track.watch.mark → n ≡ (unpacked w).traffic.track.watch.count
    → with_track (with_this_watch (record { mark = m and not (eqb n 1); count = (n - 1) % 16 }) (unpacked w).traffic.track) (unpacked w) ≡ lowered at (unpacked w)
lowered_as at w {m} {n} e f =
    let x = unpacked w in
    ap₂ (λ (a : Bool) (c : ℕ). with_track (with_this_watch (record { mark = a and not (eqb c 1); count = (c - 1) % 16 }) x.traffic.track) x) e f
    ∙ ap₂ (λ (l : Bool) (c : ℕ). with_track (with_this_watch (record { mark = x.traffic.track.watch.mark and not l; count = c }) x.traffic.track) x)
    (sym (last_second at x)) (mod-eq_of_lt (omega (arith, count_small 34 (flags_of w.flags))))
