-- An accepted event, but a second that passes, does what it says: it was not so before, and it is so after; so it changes the situation.
-- Assumes nothing.
use Prim.Native.Nat.{ℕ, ◌<◌}
use mathlib.Core.Bool.{Bool, true, false, not}
use mathlib.Core.Path.{◌≡◌, refl, sym, ap, subst, ◌∙◌}
use native.Mathlib.Omega.{arith}
use borrow.Author.Tests.{not-false}
use lib.Dec.{T, eqb}
use Rattle.words.specs.Words.{◌and◌, ◌or◌}
use Rattle.sections.specs.Sections.{◌belongs_to◌, ◌with_section◌, ◌without_section◌}
use Rattle.sections.proofs.SetLaws.{has_with_same, has_without_same}
use Rattle.block.specs.Line.{is_plan}
use Rattle.block.proofs.PlanLaws.{plan_short}
use Rattle.rulebook.specs.Place.{place}
use Rattle.rulebook.specs.Situation.{Situation, Kept, own_sobb, with_pending, held, held_towards, with_held_towards, seen_from, kept_from, ◌is_out, ◌is_in}
use Rattle.rulebook.specs.Sound.{stations_sound, sound}
use Rattle.rulebook.specs.Table.{Kind, Sobb, Cobb, Afbli, Afble, Dafbl, Bilc, Dilc, Bslg, BslgOff, Bslb, BslbOff, Reminder, ReminderOff, ExitNormal, ExitSpecial, ExitReleased, Entry, EntryReleased, Occupied, Freed, LinkLost, LinkRestored, table, section, signal, kind_of}
use Rattle.rulebook.specs.Apply.{refuses, leads, refusal_at, led_at, argument_right, spot, own_refusal, reached, applied}
use Rattle.block.specs.declared.line.Plan.{Plan}
use Rattle.block.specs.declared.line.Name.{Name}
use Rattle.block.specs.declared.line.Name.TheVariants.{StationA, StationB}
use Rattle.block.specs.declared.line.Direction.{Direction}
use Rattle.block.specs.declared.line.Direction.TheVariants.{TowardsA, TowardsB}
use Rattle.block.specs.declared.event.Event.{Event}
use Rattle.block.specs.declared.event.Spot.{Spot}
use Rattle.rulebook.proofs.Settled.{stays}
use Rattle.rulebook.proofs.WhenAccepted.{when_accepted}
use Rattle.rulebook.proofs.InTable.{All, Known, at_code, its_code}
use Rattle.rulebook.proofs.Every.{everywhere_at}
use Rattle.rulebook.proofs.Accepted.{passed}
use Rattle.rulebook.proofs.Placed.{Placed, placed}
use Rattle.rulebook.proofs.SoundnessKept.{seen_sound}
use Rattle.rulebook.specs.Laws.{a_second_passed, deeds, says, so_at, EventsDo, EventsChange}

-- an event of the kind that is accepted, as own sees it
pub record Right (k : Kind) (at : Spot) (x : Situation) : Type 0 where
  pub passes : T (eqb (refuses k at x) 0)
  pub stations : T (stations_sound x)
  pub placed : Placed at.plan k.argument at.section at.direction
  pub acts : T (not (a_second_passed k.code))

abbrev so : Kind → Spot → Situation → Bool
so k = says k.code deeds

abbrev Does : Kind → Type 0
Does k = (at : Spot) (x : Situation) → Right k at x → (so k at x ≡ false) × (so k at (leads k at x) ≡ true)

-- ---- tests
first_off : (v w : Bool) → (v or w) ≡ false → v ≡ false
first_off true w e = e
first_off false w e = refl

second_off : (v w : Bool) → (v or w) ≡ false → w ≡ false
second_off true w e = absurd (subst T e tt)
second_off false w e = e

is_off : (v : Bool) → T (not v) → v ≡ false
is_off true t = absurd t
is_off false t = refl

-- ---- events whose first check is not what they bring about, or that write a set
does_sobb : Does Sobb
does_sobb at x ok =
    let row = Sobb.row (place at x) x in
    (first_off x.traffic.pending.own x.traffic.pending.other (passed row tt ok.passes).1.1.0, sym (ap (λ (y : Situation). y.traffic.pending.own) (stays x {y = with_pending own_sobb x} refl refl)))

-- its asker, the other station, is not oriented out
abbrev asks_though_out : Situation → Bool
asks_though_out y = y.traffic.pending.other and (y.traffic.other is_out and y.traffic.own is_in)

does_cobb : Does Cobb
does_cobb at x ok =
    let asks = not-false x.traffic.pending.other (passed (Cobb.row (place at x) x) tt ok.passes).1.1.0 in
    let quiet = everywhere_at (λ y. not (asks_though_out y)) x tt ok.stations in
    let turned : Bool = x.traffic.other is_out and x.traffic.own is_in in
    (is_off turned (subst (λ (v : Bool). T (not (v and turned))) asks quiet), refl)

does_afbli : Does Afbli
does_afbli at x ok = (first_off x.traffic.own.annulment.afbli x.traffic.own.annulment.afble (passed (Afbli.row (place at x) x) tt ok.passes).0, refl)

does_afble : Does Afble
does_afble at x ok = (second_off x.traffic.own.annulment.afbli x.traffic.own.annulment.afble (passed (Afble.row (place at x) x) tt ok.passes).0, refl)

does_exit_normal : Does ExitNormal
does_exit_normal at x ok = (first_off x.traffic.own.exit.normal x.traffic.own.exit.special (passed (ExitNormal.row (place at x) x) tt ok.passes).0, refl)

does_exit_special : Does ExitSpecial
does_exit_special at x ok = (second_off x.traffic.own.exit.normal x.traffic.own.exit.special (passed (ExitSpecial.row (place at x) x) tt ok.passes).0, refl)

held_is : (x : Situation) (d : Direction) (m : ℕ) → held_towards d (with_held_towards d m x.signals.held) ≡ m
held_is x TowardsA m = refl
held_is x TowardsB m = refl

short_signal : (k : Kind) → T (eqb k.argument signal) → (at : Spot) (x : Situation) → Right k at x → at.section < 49
short_signal k t at x ok = let l = (ok.placed.signal t).line in omega (arith, l.high, l.short)

short_section : (k : Kind) → T (eqb k.argument section) → (at : Spot) (x : Situation) → Right k at x → at.section < 49
short_section k t at x ok = let l = ok.placed.section t in omega (arith, l.high, l.short)

does_bslb : Does Bslb
does_bslb at x ok =
    let d : Direction = at.direction in
    ((passed (Bslb.row (place at x) x) tt ok.passes).0, ap (λ (m : ℕ). at.section belongs_to m) (held_is x d (held x d with_section at.section)) ∙ has_with_same (held x d) at.section (short_signal Bslb tt at x ok))

does_bslb_off : Does BslbOff
does_bslb_off at x ok =
    let d : Direction = at.direction in
    ((passed (BslbOff.row (place at x) x) tt ok.passes).0, ap not (ap (λ (m : ℕ). at.section belongs_to m) (held_is x d (held x d without_section at.section)) ∙ has_without_same (held x d) at.section (short_signal BslbOff tt at x ok)))

does_occupied : Does Occupied
does_occupied at x ok = ((passed (Occupied.row (place at x) x) tt ok.passes).0, has_with_same x.traffic.track.occupied at.section (short_section Occupied tt at x ok))

does_freed : Does Freed
does_freed at x ok = ((passed (Freed.row (place at x) x) tt ok.passes).0, ap not (has_without_same x.traffic.track.occupied at.section (short_section Freed tt at x ok)))

-- ---- and all
all_do : All Does table
all_do = (
  does_sobb,
  (
    does_cobb,
    (
      does_afbli,
      (
        does_afble,
        (
          (λ at x ok. ((passed (Dafbl.row (place at x) x) tt ok.passes).0, refl)),
          (
            (λ at x ok. ((passed (Bilc.row (place at x) x) tt ok.passes).0, refl)),
            (
              (λ at x ok. ((passed (Dilc.row (place at x) x) tt ok.passes).0, refl)),
              (
                (λ at x ok. ((passed (Bslg.row (place at x) x) tt ok.passes).0, refl)),
                (
                  (λ at x ok. ((passed (BslgOff.row (place at x) x) tt ok.passes).0, refl)),
                  (
                    does_bslb,
                    (
                      does_bslb_off,
                      (
                        (λ at x ok. ((passed (Reminder.row (place at x) x) tt ok.passes).0, refl)),
                        (
                          (λ at x ok. ((passed (ReminderOff.row (place at x) x) tt ok.passes).0, refl)),
                          (
                            does_exit_normal,
                            (
                              does_exit_special,
                              (
                                (λ at x ok. ((passed (ExitReleased.row (place at x) x) tt ok.passes).0, refl)),
                                (
                                  (λ at x ok. ((passed (Entry.row (place at x) x) tt ok.passes).0, refl)),
                                  (
                                    (λ at x ok. ((passed (EntryReleased.row (place at x) x) tt ok.passes).0, refl)),
                                    (
                                      does_occupied,
                                      (
                                        does_freed,
                                        (
                                          (λ at x ok. ((passed (LinkLost.row (place at x) x) tt ok.passes).0, refl)),
                                          (
                                            (λ at x ok. ((passed (LinkRestored.row (place at x) x) tt ok.passes).0, refl)),
                                            ((λ at x ok. absurd ok.acts), tt),
                                          ),
                                        ),
                                      ),
                                    ),
                                  ),
                                ),
                              ),
                            ),
                          ),
                        ),
                      ),
                    ),
                  ),
                ),
              ),
            ),
          ),
        ),
      ),
    ),
  ),
)

-- seen twice from a station, a situation is as it was
seen_twice : (s : Name) (x : Situation) → seen_from s (kept_from s x) ≡ x
seen_twice StationA x = refl
seen_twice StationB x = refl

module _ (q : Plan) (plan : T (is_plan q)) (x : Kept) (e : Event) (t : T (sound q x)) (acts : T (not (a_second_passed e.code))) where
  abbrev at : Spot
  at = spot q e

  abbrev seen : Situation
  seen = seen_from at.own x

  reached_done : Known e.code → T (argument_right q e) → T (eqb (own_refusal q x e) 0) → (so_at q e x ≡ false) × (so_at q e (reached q x e) ≡ true)
  unfolding refusal_at led_at
  reached_done ok right a =
      let k : Kind = kind_of e.code in
      let does = at_code Does all_do e.code ok at seen (record { passes = a; stations = (seen_sound q at.own x t).stations; placed = placed q (plan_short q plan) k.argument e.argument right; acts = subst (λ (c : ℕ). T (not (a_second_passed c))) (sym (its_code e.code ok)) acts }) in
      let named : (y : Situation) → so k at y ≡ says e.code deeds at y = λ y. ap (λ (c : ℕ). says c deeds at y) (its_code e.code ok) in
      (sym (named seen) ∙ does.0, ap (says e.code deeds at) (seen_twice at.own (leads k at seen)) ∙ sym (named (leads k at seen)) ∙ does.1)

  applied_done : (applied q x e).refusal ≡ 0 → (so_at q e x ≡ false) × (so_at q e (applied q x e).next ≡ true)
  applied_done = when_accepted q x e (λ (y : Kept). (so_at q e x ≡ false) × (so_at q e y ≡ true)) reached_done

  applied_changes : (applied q x e).refusal ≡ 0 → (applied q x e).next ≡ x → ⊥
  applied_changes h same = let d = applied_done h in subst T (sym d.1 ∙ ap (so_at q e) same ∙ d.0) tt

pub events_do : EventsDo
events_do = applied_done

pub events_change : EventsChange
events_change = applied_changes
