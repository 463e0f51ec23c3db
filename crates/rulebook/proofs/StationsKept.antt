-- "Every accepted event leads from a sound situation to a sound one": the stations, the link and the pending SOBB. One test, computed for every
-- line of the table at every sound situation. Assumes nothing.
use mathlib.Core.Bool.{Bool, true, false, not}
use lib.Dec.{T, T_not, eqb}
use Rattle.rulebook.specs.Checks.{Row, refusal, effect}
use Rattle.rulebook.specs.Pending.{pending_settled}
use Rattle.rulebook.specs.Place.{Place}
use Rattle.rulebook.specs.Situation.{Situation, with_own_station, with_reminder, turned_round}
use Rattle.rulebook.specs.Sound.{stations_sound}
use Rattle.rulebook.specs.Table.{Kind, table, section}
use Rattle.rulebook.proofs.Every.{Test, every, every_at, everywhere, everywhere_at}
use Rattle.rulebook.proofs.InTable.{All, each_all, passes, by_test}

-- where a kind of event leads, at a place
abbrev pub next : Kind → Place → Situation → Situation
next e at x = pending_settled e.clears_pending x (effect (e.row at x))

abbrev pub accepted : Row → Type 0
accepted r = T (eqb (refusal r) 0)

-- a test k where v fails; k waits, so that nothing is computed where v holds
abbrev otherwise : Bool → (Unit {0} → Bool) → Bool
otherwise true k = true
otherwise false k = k tt

otherwise_at : (v : Bool) (k : Unit {0} → Bool) → T (otherwise v k) → (T (k tt) → ⊥) → T v
otherwise_at true k t n = tt
otherwise_at false k t n = n t

-- ---- what rows read that soundness does not speak of: what is told of the line, and own's reminder
abbrev told : Place → Bool → Bool → Bool → Place
told at free first expected = record { plan = at.plan; own = at.own; section = at.section; direction = at.direction; first = first; expected = expected; track_free = free; held_here = at.held_here }

abbrev reminded : Situation → Bool → Situation
reminded x m = with_own_station (with_reminder m x.traffic.own) x

-- the row refuses, whatever it reads of those
abbrev refuses : Kind → Place → Situation → Test 2
refuses e at x free m = not (eqb (refusal (e.row (told at free at.first at.expected) (reminded x m))) 0)

-- where the event leads is sound, or else the row refuses
abbrev stays : Kind → Place → Situation → Bool
stays e at x = otherwise (stations_sound (next e at x)) (λ u. every 2 (refuses e at x))

-- the effect of an event of a section is computed for all that is told of the section
abbrev choose : Bool → (Unit {0} → Bool) → (Unit {0} → Bool) → Bool
choose true a b = a tt
choose false a b = b tt

abbrev tested : Place → Situation → Kind → Bool
tested at x e = choose (eqb e.argument section) (λ u. every 3 (λ free first expected. stays e (told at free first expected) x)) (λ u. stays e at x)

computed : (at : Place) (x : Situation) → T (everywhere x (λ y. passes (tested at y) table))
computed at x = tt

-- ---- the law
stays_at : (e : Kind) (at : Place) (x : Situation) → T (stays e at x) → accepted (e.row at x) → T (stations_sound (next e at x))
stays_at e at x t a =
    otherwise_at (stations_sound (next e at x)) (λ u. every 2 (refuses e at x)) t
    (λ r. T_not (eqb (refusal (e.row at x)) 0) (every_at 2 (refuses e at x) r at.track_free x.traffic.own.reminder) a)

choose_at : (v : Bool) (a b : Unit {0} → Bool) (P : Type 0) → (T (a tt) → P) → (T (b tt) → P) → T (choose v a b) → P
choose_at true a b P f g t = f t
choose_at false a b P f g t = g t

tested_at : (e : Kind) (at : Place) (x : Situation) → T (tested at x e) → accepted (e.row at x) → T (stations_sound (next e at x))
tested_at e at x t a =
    choose_at (eqb e.argument section) (λ u. every 3 (λ free first expected. stays e (told at free first expected) x)) (λ u. stays e at x)
    (T (stations_sound (next e at x)))
    (λ h. stays_at e at x (every_at 3 (λ free first expected. stays e (told at free first expected) x) h at.track_free at.first at.expected) a)
    (λ h. stays_at e at x h a) t

pub stations_kept : (at : Place) (x : Situation) → T (stations_sound x) → All (λ e. accepted (e.row at x) → T (stations_sound (next e at x))) table
stations_kept at x s =
    each_all (λ e. T (tested at x e)) (λ e. accepted (e.row at x) → T (stations_sound (next e at x))) (λ e t. tested_at e at x t) table
    (by_test (tested at x) table (everywhere_at (λ y. passes (tested at y) table) x (computed at x) s))

pub turned_sound : (x : Situation) → T (stations_sound x) → T (stations_sound (turned_round x))
turned_sound x = everywhere_at (λ y. stations_sound (turned_round y)) x tt
