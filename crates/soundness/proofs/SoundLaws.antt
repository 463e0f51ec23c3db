-- What the clauses say of a situation when they are asked one after the other. Assumes nothing.
use Prim.Native.Nat.{ℕ, zero, suc, ◌+◌, ◌/◌, ◌%◌, ◌^◌, ◌<◌}
use mathlib.Core.Path.{◌≡◌, refl, sym, ap, ap₂, ◌∙◌}
use mathlib.Core.Bool.{Bool, true, false, not}
use native.Mathlib.Nat.{mod-lt}
use native.Mathlib.Omega.{arith}
use borrow.Author.Tests.{eqb-true, eqb-false, eq-eqb, ne_eqb}
use lib.Dec.{eqb}
use lib.Bits.{bit_or, or_add_and, and_le_l, and_le_r, or_mod, or_shr}
use lib.Pow.{pow_pos}
use Rattle.words.specs.Words.{◌and◌, ◌or◌}
use Rattle.sections.specs.Sections.{◌belongs_to◌, sections_up_to}
use Rattle.words.proofs.Tests.{and_true, and_false}
use Rattle.rulebook.specs.Situation.{◌is_out, ◌is_in, one_out_one_in, both_none}
use Rattle.rulebook.specs.Sound.{station_sound, link_up_agrees, link_down_apart, pending_sound, stations_sound, sets_sound, watch_sound, sound_in_2024}
use Rattle.block.specs.declared.line.Plan.{Plan}
use Rattle.rulebook.specs.Situation.{Station}
use Rattle.rulebook.specs.Situation.{Situation}

-- ---- tests
both_hold : (a b : Bool) → a and b ≡ true → (a ≡ true) × (b ≡ true)
both_hold true b h = (refl, h)
both_hold false b h = let z : ◌≡◌ {A = ℕ} 0 1 = cc in absurd (omega arith)

-- ---- a station
six_hold : (a : Bool) → a and true and true and true and true and true and true ≡ a
six_hold true = refl
six_hold false = refl

-- not annulled, and without an exit route
pub orientation_decides : (t : Station) → t.annulment.afbli ≡ false → t.annulment.afble ≡ false → t.exit.normal ≡ false → t.exit.special ≡ false
    → not (t is_out and t is_in) ≡ station_sound t
orientation_decides t hi he hn hs = rw (hi, he, hn, hs) (sym (six_hold (not (t is_out and t is_in))))

-- ---- the stations and the link
link_fails : (a u d p : Bool) → u and d ≡ false → a and u and d and p ≡ false
link_fails false u d p h = refl
link_fails true false d p h = refl
link_fails true true d p h = rw h

three_hold : (a : Bool) → a and true and true and true ≡ a
three_hold true = refl
three_hold false = refl

last_decides : (a b u d p : Bool) → p ≡ true → u and d ≡ true → a ≡ true → b ≡ a and b and u and d and p
last_decides a b u d p hp hl ha = let l = both_hold u d hl in rw (ha, l.0, l.1, hp) (sym (three_hold b))

module _ (x : Situation) where
  pub link_up : x.traffic.link ≡ true → link_up_agrees x ≡ link_up_agrees x and link_down_apart x
  link_up h = rw h (sym (and_true (one_out_one_in x or both_none x)))

  pub link_down : x.traffic.link ≡ false → link_down_apart x ≡ link_up_agrees x and link_down_apart x
  link_down h = rw h

  pub pending_fails : pending_sound x ≡ false → false ≡ stations_sound x
  pending_fails h = sym (ap (λ (p : Bool). station_sound x.traffic.own and station_sound x.traffic.other and link_up_agrees x and link_down_apart x and p) h ∙ and_false (station_sound x.traffic.own and station_sound x.traffic.other and link_up_agrees x and link_down_apart x))

  pub orientations_fail : link_up_agrees x and link_down_apart x ≡ false → false ≡ stations_sound x
  orientations_fail h = sym (link_fails (station_sound x.traffic.own and station_sound x.traffic.other) (link_up_agrees x) (link_down_apart x) (pending_sound x) h)

  pub own_fails : station_sound x.traffic.own ≡ false → false ≡ stations_sound x
  own_fails h = sym (ap (λ (a : Bool). a and station_sound x.traffic.other and link_up_agrees x and link_down_apart x and pending_sound x) h)

  pub other_decides : pending_sound x ≡ true → link_up_agrees x and link_down_apart x ≡ true → station_sound x.traffic.own ≡ true → station_sound x.traffic.other ≡ stations_sound x
  other_decides = last_decides (station_sound x.traffic.own) (station_sound x.traffic.other) (link_up_agrees x) (link_down_apart x) (pending_sound x)

-- ---- two sets at once
by_pairs : (a b c d : Bool) → a and b and (c and d) ≡ a and c and (b and d)
by_pairs true true c d = refl
by_pairs true false c d = sym (and_false c)
by_pairs false b c d = refl

module _ (a b : ℕ) where
  or_none : eqb (bit_or a b) 0 ≡ eqb a 0 and eqb b 0
  or_none = go (eqb a 0) (eqb b 0) refl refl
    where
      go : (v w : Bool) → eqb a 0 ≡ v → eqb b 0 ≡ w → eqb (bit_or a b) 0 ≡ v and w
      go true true e f = eq-eqb (bit_or a b) 0 (omega (arith, or_add_and a b, eqb-true a 0 e, eqb-true b 0 f))
      go true false e f = ne_eqb (bit_or a b) 0 (λ z. eqb-false b 0 f (omega (arith, or_add_and a b, and_le_l a b, z)))
      go false w e f = ne_eqb (bit_or a b) 0 (λ z. eqb-false a 0 e (omega (arith, or_add_and a b, and_le_r a b, z)))

bit_off : (n : ℕ) → n < 2 → not (eqb n 1) ≡ eqb n 0
bit_off zero h = refl
bit_off (suc zero) h = refl
bit_off (suc (suc n)) h = absurd (omega arith)

bit_of : (k m : ℕ) → not (k belongs_to m) ≡ eqb (m / 2 ^ k % 2) 0
bit_of k m = bit_off (m / 2 ^ k % 2) (mod-lt (m / 2 ^ k) (pow_pos 1))

neither_has : (k a b : ℕ) → not (k belongs_to bit_or a b) ≡ not (k belongs_to a) and not (k belongs_to b)
neither_has k a b =
    bit_of k (bit_or a b)
    ∙ ap (λ (n : ℕ). eqb n 0) (ap (λ (n : ℕ). n % 2) (or_shr a b k) ∙ or_mod (a / 2 ^ k) (b / 2 ^ k) 1)
    ∙ or_none (a / 2 ^ k % 2) (b / 2 ^ k % 2)
    ∙ rw (bit_of k a, bit_of k b)

pub both_up_to : (n a b : ℕ) → sections_up_to n (bit_or a b) ≡ sections_up_to n a and sections_up_to n b
both_up_to n a b =
    rw (neither_has 0 a b, or_shr a b (n + 1), or_none (a / 2 ^ (n + 1)) (b / 2 ^ (n + 1)))
    (by_pairs (not (0 belongs_to a)) (not (0 belongs_to b)) (eqb (a / 2 ^ (n + 1)) 0) (eqb (b / 2 ^ (n + 1)) 0))

-- ---- the sets of a situation
some_fails : (a b c s t : Bool) → a and b and c ≡ false → a and (b and s) and (c and t) ≡ false
some_fails false b c s t h = refl
some_fails true false c s t h = refl
some_fails true true c s t h = rw h (and_false s)

all_hold : (a b c s t : Bool) → a and b and c ≡ true → a and (b and s) and (c and t) ≡ s and t
all_hold true true c s t h = rw h
all_hold true false c s t h = let z : ◌≡◌ {A = ℕ} 0 1 = cc in absurd (omega arith)
all_hold false b c s t h = let z : ◌≡◌ {A = ℕ} 0 1 = cc in absurd (omega arith)

module _ (p : Plan) (x : Situation) where
  abbrev within : ℕ → Bool
  within = sections_up_to p.sections

  -- every set names sections of the plan only: asked of all at once
  abbrev pub named : Bool
  named = within (bit_or (bit_or x.traffic.track.occupied x.signals.held.towardsb) x.signals.held.towardsa)

  each_named : named ≡ within x.traffic.track.occupied and within x.signals.held.towardsb and within x.signals.held.towardsa
  each_named =
      both_up_to p.sections (bit_or x.traffic.track.occupied x.signals.held.towardsb) x.signals.held.towardsa
      ∙ ap (λ (v : Bool). v and within x.signals.held.towardsa) (both_up_to p.sections x.traffic.track.occupied x.signals.held.towardsb)

  pub some_unnamed : named ≡ false → false ≡ sets_sound p x
  some_unnamed h = sym (some_fails (within x.traffic.track.occupied) (within x.signals.held.towardsb) (within x.signals.held.towardsa) (not (1 belongs_to x.signals.held.towardsb)) (not (p.sections belongs_to x.signals.held.towardsa)) (sym each_named ∙ h))

  pub exits_decide : named ≡ true → not (1 belongs_to x.signals.held.towardsb) and not (p.sections belongs_to x.signals.held.towardsa) ≡ sets_sound p x
  exits_decide h = sym (all_hold (within x.traffic.track.occupied) (within x.signals.held.towardsb) (within x.signals.held.towardsa) (not (1 belongs_to x.signals.held.towardsb)) (not (p.sections belongs_to x.signals.held.towardsa)) (sym each_named ∙ h))

  -- ---- the situation
  pub watch_fails : watch_sound x ≡ false → false ≡ sound_in_2024 p x
  watch_fails h = sym (ap (λ (v : Bool). stations_sound x and sets_sound p x and v) h ∙ and_false (stations_sound x and sets_sound p x))

  pub sets_fail : sets_sound p x ≡ false → false ≡ sound_in_2024 p x
  sets_fail h = sym (ap (λ (v : Bool). stations_sound x and v and watch_sound x) h ∙ ap (λ (v : Bool). v and watch_sound x) (and_false (stations_sound x)))

  pub stations_decide : watch_sound x ≡ true → sets_sound p x ≡ true → stations_sound x ≡ sound_in_2024 p x
  stations_decide w h = sym (ap₂ (λ (v u : Bool). stations_sound x and v and u) h w ∙ and_true (stations_sound x and true) ∙ and_true (stations_sound x))
