-- The codes of a sound situation say that situation, and fit their record; codes in range are those of the situation that they say. Assumes
-- nothing.
use Prim.Native.Nat.{ℕ, ◌<◌}
use mathlib.Core.Path.{◌≡◌}
use mathlib.Core.Bool.{true}
use native.Mathlib.Omega.{arith}
use borrow.Author.Tests.{le-leb, lt-ltb}
use lib.Dec.{T, leb, ltb}
use Rattle.words.proofs.Tests.{or_turned}
use Rattle.forms.proofs.Reading.{both}
use Rattle.block.specs.Line.{is_plan}
use Rattle.rulebook.specs.Sound.{sound}
use Rattle.block.specs.declared.line.Plan.{Plan}
use Rattle.rulebook.specs.Situation.{Kept}
use Rattle.records.specs.Situation.{Codes, field_of, codes_of, in_range, said, situation_of, situation}
use Rattle.records.specs.InBytes.{both_zero}
use Rattle.records.proofs.SoundParts.{Encodable, encodable}
use Rattle.records.proofs.CodeByCode.{flag_in_range, code_in_range, bits_in_range, flag_back, code_first, code_second, bits_A, bits_B, sections_back, flag_again, code_again, bits_again, field_again}

-- ---- made, then read
said_back : (x : Kept) → Encodable x → said (codes_of x) ≡ x
unfolding said codes_of
said_back x k =
    rw (
      flag_back x.traffic.link,
      flag_back x.traffic.own.entry,
      flag_back x.traffic.other.entry,
      code_first x.traffic.own.orientation.out x.traffic.own.orientation.inward,
      code_second x.traffic.own.orientation.out x.traffic.own.orientation.inward k.own.0,
      code_first x.traffic.other.orientation.out x.traffic.other.orientation.inward,
      code_second x.traffic.other.orientation.out x.traffic.other.orientation.inward k.other.0,
      code_first x.traffic.own.annulment.afbli x.traffic.own.annulment.afble,
      code_second x.traffic.own.annulment.afbli x.traffic.own.annulment.afble k.own.1,
      code_first x.traffic.other.annulment.afbli x.traffic.other.annulment.afble,
      code_second x.traffic.other.annulment.afbli x.traffic.other.annulment.afble k.other.1,
      code_first x.traffic.own.exit.normal x.traffic.own.exit.special,
      code_second x.traffic.own.exit.normal x.traffic.own.exit.special k.own.2,
      code_first x.traffic.other.exit.normal x.traffic.other.exit.special,
      code_second x.traffic.other.exit.normal x.traffic.other.exit.special k.other.2,
      code_first x.traffic.pending.own x.traffic.pending.other,
      code_second x.traffic.pending.own x.traffic.pending.other k.pending,
      bits_A x.traffic.own.bilc x.traffic.other.bilc,
      bits_B x.traffic.own.bilc x.traffic.other.bilc,
      bits_A x.traffic.own.bslg x.traffic.other.bslg,
      bits_B x.traffic.own.bslg x.traffic.other.bslg,
      bits_A x.traffic.own.reminder x.traffic.other.reminder,
      bits_B x.traffic.own.reminder x.traffic.other.reminder,
      sections_back x.traffic.track.occupied k.occupied.0,
      sections_back x.signals.held.towardsb k.heldb.0,
      sections_back x.signals.held.towardsa k.helda.0,
      flag_back x.traffic.track.watch.mark,
    )

made_in_range : (x : Kept) → Encodable x → in_range (codes_of x) ≡ true
unfolding codes_of in_range
made_in_range x k = simp (flag_in_range, code_in_range, bits_in_range, le-leb x.traffic.track.watch.count 10 k.count)

fits : (m : ℕ) → m < 131072 → ltb (field_of m) 65536 ≡ true
fits m h = lt-ltb (field_of m) 65536 (omega arith)

module _ (p : Plan) (x : Kept) (h : T (is_plan p)) (k : T (sound p x)) where
  pub codes_say : situation_of (codes_of x) ≡ x
  unfolding situation_of
  codes_say = let e = encodable p x h k in rw (made_in_range x e) (said_back x e)

  -- SJ can say them all, SI those with both zero
  pub codes_fit : situation.writes (codes_of x) ≡ true
  unfolding situation codes_of
  codes_fit =
      let e = encodable p x h k in
      rw (fits x.traffic.track.occupied e.occupied.1, fits x.signals.held.towardsb e.heldb.1, fits x.signals.held.towardsa e.helda.1) (or_turned (both_zero (codes_of x)) true)

-- ---- read, then made
module _ (c : Codes) (r : in_range c ≡ true) where
  pub record CodesRight : Type 0 where
    pub link : leb c.link 1 ≡ true
    pub orientation : (leb c.orientation.0 2 ≡ true) × (leb c.orientation.1 2 ≡ true)
    pub annulment : (leb c.annulment.0 2 ≡ true) × (leb c.annulment.1 2 ≡ true)
    pub exit : (leb c.exit.0 2 ≡ true) × (leb c.exit.1 2 ≡ true)
    pub entry : (leb c.entry.0 1 ≡ true) × (leb c.entry.1 1 ≡ true)
    pub pending : leb c.pending 2 ≡ true
    pub stations : (leb c.bilc 3 ≡ true) × (leb c.bslg 3 ≡ true) × (leb c.reminder 3 ≡ true)
    pub watch : (leb c.mark 1 ≡ true) × (leb c.count 10 ≡ true)

  pub codes_right : CodesRight
  unfolding in_range
  codes_right =
      let a₁₄ = both _ (leb c.count 10) r in
      let a₁₃ = both _ (leb c.mark 1) a₁₄.0 in
      let a₁₂ = both _ (leb c.reminder 3) a₁₃.0 in
      let a₁₁ = both _ (leb c.bslg 3) a₁₂.0 in
      let a₁₀ = both _ (leb c.bilc 3) a₁₁.0 in
      let a₉ = both _ (leb c.pending 2) a₁₀.0 in
      let a₈ = both _ (leb c.entry.1 1) a₉.0 in
      let a₇ = both _ (leb c.entry.0 1) a₈.0 in
      let a₆ = both _ (leb c.exit.1 2) a₇.0 in
      let a₅ = both _ (leb c.exit.0 2) a₆.0 in
      let a₄ = both _ (leb c.annulment.1 2) a₅.0 in
      let a₃ = both _ (leb c.annulment.0 2) a₄.0 in
      let a₂ = both _ (leb c.orientation.1 2) a₃.0 in
      let a₁ = both _ (leb c.orientation.0 2) a₂.0 in
      record {
        link = a₁.0;
        orientation = (a₁.1, a₂.1);
        annulment = (a₃.1, a₄.1);
        exit = (a₅.1, a₆.1);
        entry = (a₇.1, a₈.1);
        pending = a₉.1;
        stations = (a₁₀.1, a₁₁.1, a₁₂.1);
        watch = (a₁₃.1, a₁₄.1);
      }

  said_again : codes_of (said c) ≡ c
  unfolding codes_of said
  said_again =
      let k = codes_right in
      rw (
        flag_again c.link k.link,
        code_again c.orientation.0 k.orientation.0,
        code_again c.orientation.1 k.orientation.1,
        code_again c.annulment.0 k.annulment.0,
        code_again c.annulment.1 k.annulment.1,
        code_again c.exit.0 k.exit.0,
        code_again c.exit.1 k.exit.1,
        flag_again c.entry.0 k.entry.0,
        flag_again c.entry.1 k.entry.1,
        code_again c.pending k.pending,
        bits_again c.bilc k.stations.0,
        bits_again c.bslg k.stations.1,
        bits_again c.reminder k.stations.2,
        field_again c.occupied,
        field_again c.heldb,
        field_again c.helda,
        flag_again c.mark k.watch.0,
      )

  pub codes_made_again : codes_of (situation_of c) ≡ c
  unfolding situation_of
  codes_made_again = rw r said_again
