-- (02, Req 02) A second that passes is always accepted, and changes nothing where no count runs, and nothing but the watch where one does.
-- Assumes nothing.
use Prim.Native.Nat.{ℕ, zero, suc, ◌-◌}
use mathlib.Core.Bool.{Bool, true, false, not}
use mathlib.Core.Path.{◌≡◌, refl, sym, ap, ap₂, subst, ◌∙◌}
use native.Mathlib.Omega.{arith}
use borrow.Author.Tests.{eq-eqb, ne_eqb, eqb-true, not-false}
use lib.Dec.{eqb}
use Rattle.words.specs.Words.{◌and◌}
use Rattle.words.proofs.Tests.{and_true, and_false}
use Rattle.rulebook.specs.Situation.{Situation, Kept, with_track, with_this_watch, count_runs}
use Rattle.rulebook.specs.Judged.{judged}
use Rattle.rulebook.specs.Place.{Place, place}
use Rattle.rulebook.specs.Events.{brings_to_0, watch_lowered}
use Rattle.rulebook.specs.Table.{Second}
use Rattle.rulebook.specs.Apply.{refusal_at, led_at, event, known, argument_right, spot, own_refusal, reached, accepted, acted, stepped, applied, Outcome}
use Rattle.block.specs.declared.line.Plan.{Plan}
use Rattle.block.specs.declared.event.Event.{Event}
use Rattle.rulebook.proofs.Settled.{stays}
use Rattle.rulebook.proofs.Judged.{judged_accepts}
use Rattle.rulebook.specs.Laws.{one_second, SecondAccepted, SecondQuiet, SecondsTouchTheWatch, SecondsArgument}

-- an accepted event leads where it leads
pub leads_there : (p : Plan) (x : Kept) (e : Event) → judged p x ≡ 0 → known e ≡ true → argument_right p e ≡ true → own_refusal p x e ≡ 0 → applied p x e ≡ accepted (reached p x e)
unfolding stepped acted
leads_there p x e j k r z = rw (eq-eqb _ 0 j, k, r, eq-eqb _ 0 z) refl

-- a count is brought to 0 from 1 alone
pub from_one : (n : ℕ) → (not (eqb n 0) and eqb (n - 1) 0) ≡ eqb n 1
from_one zero = refl
from_one (suc zero) = refl
from_one (suc (suc n)) = rw (ne_eqb (suc (suc n) - 1) 0 (λ e. omega (arith, e)), ne_eqb (suc (suc n)) 1 (λ e. omega (arith, e))) (and_false (not (eqb (suc (suc n)) 0)))

pub last_second : (at : Place) (x : Situation) → brings_to_0 at x ≡ eqb x.traffic.track.watch.count 1
last_second at x = from_one x.traffic.track.watch.count

-- where a second leads
abbrev pub lowered : Place → Situation → Situation
lowered at x = with_track (with_this_watch (watch_lowered at x) x.traffic.track) x

abbrev pub there : Plan → Kept → Place
there p x = place (spot p one_second) x

pub second_passes : (p : Plan) (x : Kept) → judged p x ≡ 0 → applied p x one_second ≡ accepted (lowered (there p x) x)
unfolding refusal_at led_at
second_passes p x j = leads_there p x one_second j refl refl refl ∙ ap accepted (sym (stays x {y = lowered (there p x) x} refl refl))

pub second_accepted : SecondAccepted
second_accepted p plan x t = ap (λ (o : Outcome). o.refusal) (second_passes p x (judged_accepts p plan x t))

pub quiet : (at : Place) (x : Situation) → count_runs x.traffic.track.watch ≡ false → lowered at x ≡ x
quiet at x still =
    let w = x.traffic.track.watch in
    let zeroed : w.count ≡ 0 = eqb-true w.count 0 (not-false (eqb w.count 0) still) in
    let same : w.count - 1 ≡ w.count = omega (arith, zeroed) in
    ap₂ (λ (m : Bool) (n : ℕ). with_track (with_this_watch (record { mark = m; count = n }) x.traffic.track) x)
    (ap (λ (r : Bool). w.mark and not (r and eqb (w.count - 1) 0)) still ∙ and_true w.mark) same

pub second_quiet : SecondQuiet
second_quiet p x still = go (eqb (judged p x) 0) refl
  where
    go : (v : Bool) → eqb (judged p x) 0 ≡ v → (applied p x one_second).next ≡ x
    go true e = ap (λ (o : Outcome). o.next) (second_passes p x (eqb-true (judged p x) 0 e)) ∙ quiet (there p x) x still
    go false e = rw e refl

abbrev Alone : Kept → Kept → Type 0
Alone x y = y ≡ with_track (with_this_watch y.traffic.track.watch x.traffic.track) x

pub seconds_touch_the_watch : SecondsTouchTheWatch
seconds_touch_the_watch p x = go (eqb (judged p x) 0) refl
  where
    go : (v : Bool) → eqb (judged p x) 0 ≡ v → Alone x (applied p x one_second).next
    go true e = subst (Alone x) (sym (ap (λ (o : Outcome). o.next) (second_passes p x (eqb-true (judged p x) 0 e)))) refl
    go false e = rw e refl

pub seconds_argument : SecondsArgument
unfolding stepped
seconds_argument p plan x t argument other =
    let wrong : argument_right p (event Second.code argument) ≡ false = ne_eqb argument 0 other in
    rw (eq-eqb _ 0 (judged_accepts p plan x t), wrong) refl
