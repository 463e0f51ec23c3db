-- SI or SJ: the codes that SI can say are those with both mark and count zero; how long the record is, and its bytes. Assumes nothing.
use Rattle.std.specs.Prelude.{if◌then◌else◌}
use Prim.Native.Nat.{◌≤◌}
use mathlib.Core.Path.{◌≡◌, refl, sym, ap, ◌∙◌}
use mathlib.Core.Bool.{Bool, true, false}
use native.Mathlib.Omega.{arith}
use lib.ListN.{length, take}
use Rattle.words.specs.Words.{◌or◌}
use Rattle.forms.specs.Compose.{section}
use Rattle.forms.proofs.Reading.{both}
use Rattle.records.specs.Situation.{Codes, without_watch, with_watch, situation}
use Rattle.records.specs.InBytes.{both_zero, situation_size, situation_bytes}

module _ (c : Codes) where
  -- each section field fits its two bytes
  pub record FieldsFit : Type 0 where
    pub occupied : (section 2).writes c.occupied ≡ true
    pub heldb : (section 2).writes c.heldb ≡ true
    pub helda : (section 2).writes c.helda ≡ true

  pub fields_fit : with_watch.writes c ≡ true → FieldsFit
  fields_fit h =
      let a = both ((section 2).writes c.occupied) _ h in
      let b = both ((section 2).writes c.heldb) _ a.1 in
      record { occupied = a.0; heldb = b.0; helda = (both ((section 2).writes c.helda) true b.1).0 }

  -- "SI means both zero"
  pub SI_says : with_watch.writes c ≡ true → without_watch.writes c ≡ both_zero c
  SI_says h = let f = fields_fit h in rw (f.occupied, f.heldb, f.helda)

  -- SJ has room for what SI says too
  pub SJ_says : situation.writes c ≡ true → with_watch.writes c ≡ true
  unfolding situation
  SJ_says h = by (without_watch.writes c) refl h
    where
      by : (v : Bool) → without_watch.writes c ≡ v → (v or with_watch.writes c) ≡ true → with_watch.writes c ≡ true
      by true e h =
          let a = both ((section 2).writes c.occupied) _ e in
          let b = both ((section 2).writes c.heldb) _ a.1 in
          rw (a.0, b.0, (both ((section 2).writes c.helda) _ b.1).0)
      by false e h = h

  pub long_enough : 21 ≤ length (situation.written c)
  unfolding situation
  long_enough = by (without_watch.writes c)
    where
      by : (v : Bool) → 21 ≤ length (if v then without_watch.written c else with_watch.written c)
      by true = omega arith
      by false = omega arith

  pub size_between : (21 ≤ situation_size c) × (situation_size c ≤ 23)
  unfolding situation_size
  size_between = by (both_zero c)
    where
      by : (v : Bool) → (21 ≤ (if v then 21 else 23)) × ((if v then 21 else 23) ≤ 23)
      by true = (omega arith, omega arith)
      by false = (omega arith, omega arith)

  module _ (h : situation.writes c ≡ true) where
    -- which of the two it is
    pub written_as : situation.written c ≡ (if both_zero c then without_watch.written c else with_watch.written c)
    unfolding situation
    written_as = ap (λ (v : Bool). if v then without_watch.written c else with_watch.written c) (SI_says (SJ_says h))

    pub size_is : length (situation.written c) ≡ situation_size c
    unfolding situation_size
    size_is = ap length written_as ∙ by (both_zero c)
      where
        by : (v : Bool) → length (if v then without_watch.written c else with_watch.written c) ≡ (if v then 21 else 23)
        by true = refl
        by false = refl

    pub bytes_are : take (situation_size c) (situation_bytes c) ≡ situation.written c
    unfolding situation_size situation_bytes
    bytes_are = by (both_zero c) refl ∙ sym written_as
      where
        by : (v : Bool) → both_zero c ≡ v → take (if both_zero c then 21 else 23) (situation_bytes c) ≡ (if both_zero c then without_watch.written c else with_watch.written c)
        by true e = rw e
        by false e = rw e
