-- Each event is accepted from some sound situation of the plan 4, 2 of either edition: a line for each code, and one computed test for each edition.
-- Assumes nothing.
use Rattle.std.specs.Prelude.{if◌then◌else◌}
use Prim.Native.Nat.{ℕ}
use mathlib.Core.Bool.{Bool, true, false}
use mathlib.Core.Path.{refl, subst}
use lib.Dec.{T, eqb, eqb→eq}
use Rattle.words.specs.Words.{◌and◌}
use Rattle.words.proofs.Tests.{and_at}
use Rattle.rulebook.specs.Situation.{Kept, fresh, blank, out, inward, AFBLI, normal, ◌becomes◌, ◌annulled_by◌, ◌with_exit◌, with_entry, with_bilc, with_bslg, with_reminder, with_link, with_own_station, with_stations, with_pending, with_track, no_watch, with_held}
use Rattle.rulebook.specs.Sound.{sound}
use Rattle.rulebook.specs.Table.{Kind, Cobb, Dafbl, Dilc, BslgOff, BslbOff, ReminderOff, ExitNormal, ExitSpecial, ExitReleased, EntryReleased, Freed, LinkRestored, table, kind_of}
use Rattle.rulebook.specs.Apply.{event, applied, stepped, acted, refusal_at}
use Rattle.block.specs.declared.line.Plan.{Plan}
use Rattle.block.specs.declared.line.Direction.TheVariants.{TowardsB}
use Rattle.rulebook.proofs.InTable.{All, by_test, at_code, its_code}
use Rattle.rulebook.specs.Laws.{AcceptedSomewhere}

plan : Bool → Plan
plan rules2012 = record { sections = 4; frontier = 2; rules2012 = rules2012 }

-- A oriented out, B in
abbrev towards_B : Kept
towards_B = with_stations (blank becomes out) (blank becomes inward) fresh

-- where nothing is said, the fresh one
abbrev from : ℕ → Kept
from c =
    if eqb c Cobb.code then with_pending (record { own = false; other = true }) fresh else
    if eqb c Dafbl.code then with_own_station (blank annulled_by AFBLI) fresh else
    if eqb c Dilc.code then with_own_station (with_bilc true blank) fresh else
    if eqb c BslgOff.code then with_own_station (with_bslg true blank) fresh else
    if eqb c BslbOff.code then with_held TowardsB 4 fresh else
    if eqb c ReminderOff.code then with_own_station (with_reminder true blank) fresh else
    if eqb c ExitNormal.code then towards_B else
    if eqb c ExitSpecial.code then towards_B else
    if eqb c ExitReleased.code then with_own_station (blank becomes out with_exit normal) towards_B else
    if eqb c EntryReleased.code then with_own_station (with_entry true blank) fresh else
    if eqb c Freed.code then with_track (record { occupied = 4; watch = no_watch }) fresh else
    if eqb c LinkRestored.code then with_link false fresh else
    fresh

-- block signal 2, section 2; else A, or nothing
abbrev with_argument : ℕ → ℕ
with_argument c = if eqb (kind_of c).argument 2 then 2 else if eqb (kind_of c).argument 3 then 2 else 0

abbrev refusal_there : Bool → ℕ → ℕ
refusal_there v c = (applied (plan v) (from c) (event c (with_argument c))).refusal

abbrev fits_at : Bool → ℕ → Bool
fits_at v c = sound (plan v) (from c) and eqb (refusal_there v c) 0

fits : Bool → Kind → Bool
fits v k = fits_at v k.code

all_fit : (v : Bool) → All (λ k. T (fits v k)) table
unfolding plan fits stepped acted refusal_at
all_fit true = by_test (fits true) table tt
all_fit false = by_test (fits false) table tt

pub accepted_somewhere : AcceptedSomewhere
unfolding plan fits
accepted_somewhere v e ok =
    let c : ℕ = e.code in
    let here : T (fits_at v c) = subst (λ (n : ℕ). T (fits_at v n)) (its_code c ok) (at_code (λ k. T (fits v k)) (all_fit v) c ok) in
    let h = and_at (sound (plan v) (from c)) (eqb (refusal_there v c) 0) here in
    record { plan = plan v; of_edition = refl; situation = from c; argument = with_argument c; is_a_plan = tt; is_sound = h.0; is_accepted = eqb→eq (refusal_there v c) 0 h.1 }
