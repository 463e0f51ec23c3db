-- Each signal is off red in some sound situation: one station out, with an exit route, the other in, and the line empty. Assumes nothing.
use Rattle.std.specs.Prelude.{if◌then◌else◌}
use Prim.Native.Nat.{ℕ, zero, suc}
use mathlib.Core.Bool.{Bool, true, false, not}
use mathlib.Core.Path.{refl, sym, subst}
use lib.Dec.{T}
use Rattle.words.specs.Words.{◌and◌, ◌or◌}
use Rattle.words.proofs.Tests.{if_case, holds_is}
use Rattle.sections.specs.Sections.{none, ◌belongs_to◌}
use Rattle.sections.proofs.SetLaws.{none_has}
use Rattle.block.specs.Line.{is_section, owner, after, section_of, is_exit}
use Rattle.block.specs.declared.line.Plan.{Plan}
use Rattle.block.specs.declared.line.Name.{Name}
use Rattle.block.specs.declared.line.Name.TheVariants.{StationA, StationB}
use Rattle.block.specs.declared.line.Direction.{Direction}
use Rattle.block.specs.declared.line.Direction.TheVariants.{TowardsA, TowardsB}
use Rattle.rulebook.specs.Situation.{Station, Kept, station, area_direction, held, blank, out, inward, normal, ◌becomes◌, ◌with_exit◌, with_stations, fresh}
use Rattle.rulebook.specs.Sound.{sound}
use Rattle.rulebook.proofs.ExclusionsKept.{none_annulled}
use Rattle.rulebook.proofs.SoundnessKept.{parts, whole}
use Rattle.rulebook.proofs.FreshSound.{fresh_sound}
use Rattle.aspects.specs.Aspects.{red, yellow, green, code, is_red, runs, signals_after, section_free, block_open, exit_open, is_open, entry_red, out_of_sight, shows_with, shows}
use Rattle.aspects.specs.Covering.{covering, off_red}
use Rattle.aspects.specs.Laws.{OffRedSomewhere}
use Rattle.aspects.proofs.Opposing.{section_short, covers}

-- ---- an open signal is off red
open_shown : (o next_red : Bool) → T o → T (off_red (code (if o then (if next_red then yellow else green) else red)))
open_shown true true t = tt
open_shown true false t = tt
open_shown false next_red t = absurd t

module _ (p : Plan) (x : Kept) (d : Direction) where
  open_with : (m k : ℕ) → T (is_open p x d k) → T (off_red (code (shows_with p x d m k)))
  open_with zero k = open_shown (is_open p x d k) (entry_red p x d)
  open_with (suc m) k = open_shown (is_open p x d k) (is_red (shows_with p x d m (after d k)) or out_of_sight p x d k)

  abbrev Shown : Direction → ℕ → Type 0
  Shown e j = T (off_red (if is_section p j then code (shows p x e j) else 0))

  open_off_red : (k : ℕ) → T (is_section p k) → T (is_open p x d k) → Shown d k
  unfolding shows
  open_off_red k on t = subst (λ (v : Bool). T (off_red (if v then code (shows p x d k) else 0))) (sym (holds_is (is_section p k) on)) (open_with (signals_after p d k) k t)

-- ---- a line in use
out_with_route : Station
out_with_route = (blank becomes out) with_exit normal

abbrev in_use : Direction → Kept
in_use TowardsB = with_stations out_with_route (blank becomes inward) fresh
in_use TowardsA = with_stations (blank becomes inward) out_with_route fresh

in_use_sound : (p : Plan) (d : Direction) → T (sound p (in_use d))
unfolding out_with_route
in_use_sound p TowardsB = whole p (in_use TowardsB) (record { stations = tt; sets = (parts p fresh (fresh_sound p)).sets; watch = tt; exclusions = none_annulled p (in_use TowardsB) refl refl })
in_use_sound p TowardsA = whole p (in_use TowardsA) (record { stations = tt; sets = (parts p fresh (fresh_sound p)).sets; watch = tt; exclusions = none_annulled p (in_use TowardsA) refl refl })

free : (k : ℕ) → T (not (k belongs_to none))
free k = subst (λ (v : Bool). T (not v)) (sym (none_has k)) tt

free_and_not_held : (k : ℕ) → T (not (k belongs_to none) and not (k belongs_to none) and true)
free_and_not_held k = subst (λ (v : Bool). T (not v and not v and true)) (sym (none_has k)) tt

block_in_use : (p : Plan) (d : Direction) (s : Name) (k : ℕ)
    → T (runs s (area_direction (station (in_use d) s)) d and section_free p (in_use d) d k and not (k belongs_to held (in_use d) d) and not (station (in_use d) s).bslg)
unfolding out_with_route
block_in_use p TowardsB StationA k = free_and_not_held k
block_in_use p TowardsB StationB k = free_and_not_held k
block_in_use p TowardsA StationA k = free_and_not_held k
block_in_use p TowardsA StationB k = free_and_not_held k

exit_in_use : (p : Plan) (d : Direction) (k : ℕ) → T (exit_open p (in_use d) d k)
unfolding out_with_route
exit_in_use p TowardsB k = free k
exit_in_use p TowardsA k = free k

open_in_use : (p : Plan) (d : Direction) (k : ℕ) → T (is_open p (in_use d) d k)
open_in_use p d k =
    if_case (λ (v : Bool). T v) (is_exit p d k) (exit_open p (in_use d) d k) (block_open p (in_use d) d k)
    (λ t. exit_in_use p d k) (λ t. block_in_use p d (owner p k) k)

pub off_red_somewhere : OffRedSomewhere
off_red_somewhere p plan d k on =
    let x = in_use d in
    let c = covers d k (section_short p plan k on) in
    record {
      situation = x;
      is_sound = in_use_sound p d;
      is_shown = subst (λ (e : Direction). Shown p x d e (section_of (covering d k))) (sym c.0) (subst (λ (j : ℕ). Shown p x d d j) (sym c.1) (open_off_red p x d k on (open_in_use p d k)));
    }
