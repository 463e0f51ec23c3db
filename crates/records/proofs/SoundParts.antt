-- What soundness says of a situation's codes and sets: that they fit their bytes. Assumes nothing.
use Prim.Native.Nat.{ℕ, ◌+◌, ◌*◌, ◌/◌, ◌%◌, ◌^◌, ◌≤◌, ◌<◌}
use mathlib.Core.Path.{◌≡◌}
use mathlib.Core.Bool.{true, not}
use native.Mathlib.Omega.{arith}
use native.Mathlib.Nat.{div-lt_iff_lt-mul}
use borrow.Author.Tests.{leb-true, eqb-true}
use lib.Pow.{pow_pos, pow_mono}
use lib.Dec.{T, eqb, leb, ltb}
use Rattle.words.specs.Words.{◌and◌, ◌or◌}
use Rattle.sections.specs.Sections.{◌belongs_to◌, sections_up_to}
use Rattle.words.proofs.Tests.{and_at, holds_is, not_equal}
use Rattle.block.specs.Line.{is_plan}
use Rattle.rulebook.specs.Sound as block
use Rattle.rulebook.specs.Sound.{station_sound, annulled_is_none, routed_is_open, normal_not_annulled, special_not_AFBLI, link_up_agrees, link_down_apart, pending_sound, may_ask, held_sound, sound}
use Rattle.block.specs.declared.line.Plan.{Plan}
use Rattle.block.specs.declared.line.Direction.TheVariants.{TowardsA, TowardsB}
use Rattle.rulebook.specs.Situation.{Station, Situation, any_exit_route}
use Rattle.rulebook.proofs.SoundnessKept.{parts}
use Rattle.rulebook.proofs.WatchKept.{facts}

-- the sets hold sections of the line, and no exit signal is held
pub record SoundSets (p : Plan) (x : Situation) : Type 0 where
  pub occupied : T (sections_up_to p.sections x.traffic.track.occupied)
  pub heldb : T (sections_up_to p.sections x.signals.held.towardsb)
  pub no_exit_A : T (not (1 belongs_to x.signals.held.towardsb))
  pub helda : T (sections_up_to p.sections x.signals.held.towardsa)
  pub no_exit_B : T (not (p.sections belongs_to x.signals.held.towardsa))

pub sound_sets : (p : Plan) (x : Situation) → T (sound p x) → SoundSets p x
sound_sets p x k =
    let f = and_at (sections_up_to p.sections x.traffic.track.occupied and held_sound p x TowardsB) (held_sound p x TowardsA) (parts p x k).sets in
    let g = and_at (sections_up_to p.sections x.traffic.track.occupied) (held_sound p x TowardsB) f.0 in
    let i = and_at (sections_up_to p.sections x.signals.held.towardsb) (not (1 belongs_to x.signals.held.towardsb)) g.1 in
    let j = and_at (sections_up_to p.sections x.signals.held.towardsa) (not (p.sections belongs_to x.signals.held.towardsa)) f.1 in
    record { occupied = g.0; heldb = i.0; no_exit_A = i.1; helda = j.0; no_exit_B = j.1 }

-- ---- what of its soundness a situation's bytes need
abbrev pub OneValueEach : Station → Type 0
OneValueEach t = (not (t.orientation.out and t.orientation.inward) ≡ true) × (not (t.annulment.afbli and t.annulment.afble) ≡ true) × (not (t.exit.normal and t.exit.special) ≡ true)

abbrev pub InAField : ℕ → Type 0
InAField m = (m % 2 ≡ 0) × (m < 131072)

pub record Encodable (x : Situation) : Type 0 where
  pub own : OneValueEach x.traffic.own
  pub other : OneValueEach x.traffic.other
  pub pending : not (x.traffic.pending.own and x.traffic.pending.other) ≡ true
  pub occupied : InAField x.traffic.track.occupied
  pub heldb : InAField x.signals.held.towardsb
  pub helda : InAField x.signals.held.towardsa
  pub count : x.traffic.track.watch.count ≤ 10

station_encodable : (t : Station) → T (station_sound t) → OneValueEach t
station_encodable t h =
    let a = and_at (block.codes_in_range t and annulled_is_none t and routed_is_open t and normal_not_annulled t) (special_not_AFBLI t) h in
    let b = and_at (block.codes_in_range t and annulled_is_none t and routed_is_open t) (normal_not_annulled t) a.0 in
    let c = and_at (block.codes_in_range t and annulled_is_none t) (routed_is_open t) b.0 in
    let d = and_at (block.codes_in_range t) (annulled_is_none t) c.0 in
    let e = and_at (not (t.orientation.out and t.orientation.inward) and not (t.annulment.afbli and t.annulment.afble)) (not (t.exit.normal and t.exit.special)) d.0 in
    let f = and_at (not (t.orientation.out and t.orientation.inward)) (not (t.annulment.afbli and t.annulment.afble)) e.0 in
    (holds_is _ f.0, holds_is _ f.1, holds_is _ e.1)

small_set : (m hi : ℕ) → hi ≤ 17 → m / 2 ^ hi ≡ 0 → m < 131072
small_set m hi h e =
    let l : m < 1 * 2 ^ hi = (div-lt_iff_lt-mul {k = 2 ^ hi} {x = m} {y = 1} (pow_pos hi)).0 (omega arith) in
    let k : 2 ^ hi ≤ 2 ^ 17 = pow_mono h in
    omega arith

set_encodable : (n m : ℕ) → n ≤ 16 → T (sections_up_to n m) → InAField m
set_encodable n m l h =
    let a = and_at (not (0 belongs_to m)) (eqb (m / 2 ^ (n + 1)) 0) h in
    (omega (arith, not_equal (m / 2 ^ 0 % 2) 1 a.0), small_set m (n + 1) (omega arith) (eqb-true _ _ (holds_is _ a.1)))

pub encodable : (p : Plan) (x : Situation) → T (is_plan p) → T (sound p x) → Encodable x
encodable p x h k =
    let n₁ = and_at (leb 2 p.sections and leb p.sections 16 and leb 1 p.frontier) (ltb p.frontier p.sections) h in
    let n₂ = and_at (leb 2 p.sections and leb p.sections 16) (leb 1 p.frontier) n₁.0 in
    let n₃ = and_at (leb 2 p.sections) (leb p.sections 16) n₂.0 in
    let n = leb-true p.sections 16 (holds_is _ n₃.1) in
    let a = parts p x k in
    let b = and_at (station_sound x.traffic.own and station_sound x.traffic.other and link_up_agrees x and link_down_apart x) (pending_sound x) a.stations in
    let c = and_at (station_sound x.traffic.own and station_sound x.traffic.other and link_up_agrees x) (link_down_apart x) b.0 in
    let d = and_at (station_sound x.traffic.own and station_sound x.traffic.other) (link_up_agrees x) c.0 in
    let e = and_at (station_sound x.traffic.own) (station_sound x.traffic.other) d.0 in
    let q = and_at (not (x.traffic.pending.own and x.traffic.pending.other) and (not x.traffic.pending.own or may_ask x x.traffic.own)) (not x.traffic.pending.other or may_ask x x.traffic.other) b.1 in
    let r = and_at (not (x.traffic.pending.own and x.traffic.pending.other)) (not x.traffic.pending.own or may_ask x x.traffic.own) q.0 in
    let f = sound_sets p x k in
    record {
      own = station_encodable x.traffic.own e.0;
      other = station_encodable x.traffic.other e.1;
      pending = holds_is _ r.0;
      occupied = set_encodable p.sections x.traffic.track.occupied n f.occupied;
      heldb = set_encodable p.sections x.signals.held.towardsb n f.heldb;
      helda = set_encodable p.sections x.signals.held.towardsa n f.helda;
      count = (facts x.traffic.track (any_exit_route x) a.watch).low;
    }
