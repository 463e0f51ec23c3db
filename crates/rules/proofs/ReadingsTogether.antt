-- All readings hold exactly in the situations that are what they ask put together, where from the first aspect on the aspects hold.
-- Assumes nothing.
use Rattle.std.specs.Prelude.{if◌then◌else◌}
use Prim.Native.Nat.{ℕ, max, ◌/◌, ◌^◌, suc, ◌-◌, ◌≤◌}
use mathlib.Core.Path.{◌≡◌, refl, sym, ap, ◌∙◌}
use mathlib.Core.Bool.{Bool, true, false}
use mathlib.Core.List.{List, [], ◌∷◌}
use native.Mathlib.Omega.{arith}
use lib.Dec.{eqb}
use lib.ListN.{length, drop}
use Rattle.words.specs.Words.{◌and◌}
use Rattle.sections.specs.Sections.{none, ◌belongs_to◌}
use Rattle.sections.proofs.SetsOfSets.{in_both}
use Rattle.words.proofs.Tests.{and_true}
use Rattle.rulebook.specs.Situation.{line_free}
use Rattle.block.specs.declared.line.Plan.{Plan}
use Rattle.rulebook.specs.Situation.{Situation}
use Rattle.situation.specs.Packed.{unpacked}
use Rattle.situation.specs.CodeSets.{own_codes, other_codes}
use Rattle.situation.proofs.CodeSets.{six_all, by_value, agrees}
use Rattle.situation.specs.declared.Situation.{Situation as Packed}
use Rattle.aspects.specs.Aspects.{aspect}
use Rattle.signals.specs.Readings.{line_read, value_read, reading_holds}
use Rattle.signals.specs.CodesRead.{of_station, codes_of, codes_where}
use Rattle.signals.proofs.CodesRead.{in_codes, line_is}
use Rattle.records.specs.InBytes.{readings_in}
use Rattle.rules.specs.RulesOf.{all_hold}
use Rattle.rules.specs.Wanted.{anything, with_own, with_other, with_codes, with_line, with_aspect, with_reading, with_readings, wanted_of, where_line, as_wanted, aspect_holds, aspects_hold}
use Rattle.rules.specs.declared.wanted.Wanted.{Wanted}

-- ---- the line
in_line : (free : Bool) (v : ℕ) → ((if free then 0 else 1) belongs_to where_line v) ≡ eqb (if free then 0 else 1) v
unfolding where_line agrees
in_line true = by_value 1 2 none 0 0 (omega arith) tt
in_line false = by_value 1 2 none 1 1 (omega arith) tt

either_way : (b : Bool) (n : ℕ) → (if b then n else n) ≡ n
either_way true n = refl
either_way false n = refl

-- ---- tests joined in another order
and_swap : (a b : Bool) → (a and b) ≡ (b and a)
and_swap true b = sym (and_true b)
and_swap false true = refl
and_swap false false = refl

and_group : (a b c : Bool) → ((a and b) and c) ≡ (a and (b and c))
and_group true b c = refl
and_group false b c = refl

-- the test n, asked beside one of three, is asked after all of them
first_two : (a n b l : Bool) → (((a and n) and b) and l) ≡ (((a and b) and l) and n)
first_two true n true l = ap (λ (b : Bool). b and l) (and_true n) ∙ and_swap n l
first_two true true false l = refl
first_two true false false l = refl
first_two false n b l = refl

second_two : (a b n l : Bool) → ((a and (b and n)) and l) ≡ (((a and b) and l) and n)
second_two true true n l = and_swap n l
second_two true false n l = refl
second_two false b n l = refl

between : (a b c : Bool) → (a and (b and c)) ≡ (b and (a and c))
between true b c = refl
between false true c = refl
between false false c = refl

module _ (x : Packed) where
  -- ---- a reading more
  own_too : (w : Wanted) (codes : ℕ) → as_wanted (with_own codes w) x ≡ (as_wanted w x and (own_codes x belongs_to codes))
  own_too w codes =
      ap (λ (b : Bool). b and (other_codes x belongs_to w.other) and (line_read (unpacked x) belongs_to w.line)) (in_both (own_codes x) w.own codes)
      ∙ first_two (own_codes x belongs_to w.own) (own_codes x belongs_to codes) (other_codes x belongs_to w.other) (line_read (unpacked x) belongs_to w.line)

  other_too : (w : Wanted) (codes : ℕ) → as_wanted (with_other codes w) x ≡ (as_wanted w x and (other_codes x belongs_to codes))
  other_too w codes =
      ap (λ (b : Bool). (own_codes x belongs_to w.own) and b and (line_read (unpacked x) belongs_to w.line)) (in_both (other_codes x) w.other codes)
      ∙ second_two (own_codes x belongs_to w.own) (other_codes x belongs_to w.other) (other_codes x belongs_to codes) (line_read (unpacked x) belongs_to w.line)

  line_too : (w : Wanted) (value : ℕ) → as_wanted (with_line (where_line value) w) x ≡ (as_wanted w x and eqb (line_read (unpacked x)) value)
  line_too w value =
      let stations = (own_codes x belongs_to w.own) and (other_codes x belongs_to w.other) in
      let line = line_read (unpacked x) in
      ap (λ (b : Bool). stations and b) (in_both line w.line (where_line value))
      ∙ sym (and_group stations (line belongs_to w.line) (line belongs_to where_line value))
      ∙ ap (λ (b : Bool). as_wanted w x and b) (in_line (line_free (unpacked x)) value)

  codes_too : (arg : ℕ) (w : Wanted) (codes : ℕ) → as_wanted (with_codes arg codes w) x ≡ (as_wanted w x and (codes_of arg x belongs_to codes))
  codes_too arg w codes = go (eqb arg 1)
    where
      go : (b : Bool) → as_wanted (if b then with_other codes w else with_own codes w) x ≡ (as_wanted w x and ((if b then other_codes x else own_codes x) belongs_to codes))
      go true = other_too w codes
      go false = own_too w codes

  module _ (p : Plan) where
    -- what is asked together, and the aspects one by one
    reading_too : (w : Wanted) (kind arg value left : ℕ) → (as_wanted (with_reading kind arg value left w) x and aspect_holds p (unpacked x) kind arg value) ≡ (as_wanted w x and reading_holds p (unpacked x) kind arg value)
    unfolding value_read
    reading_too w kind arg value left = go (eqb kind 1) refl (of_station kind) refl
      where
        go : (one : Bool) → eqb kind 1 ≡ one → (station : Bool) → of_station kind ≡ station →
            (as_wanted (if one then with_aspect left w else if station then with_codes arg (codes_where kind value) w else with_line (where_line value) w) x and (if one then eqb (aspect p (unpacked x) arg) value else true))
            ≡ (as_wanted w x and reading_holds p (unpacked x) kind arg value)
        go true e station f = rw e refl
        go false e true f = and_true _ ∙ codes_too arg w (codes_where kind value) ∙ ap (λ (b : Bool). as_wanted w x and b) (in_codes x arg p kind e f value)
        go false e false f = and_true _ ∙ line_too w value ∙ ap (λ (n : ℕ). as_wanted w x and eqb n value) (line_is p (unpacked x) kind arg e f)

    readings_too : (w : Wanted) (t : List ℕ) → (as_wanted (with_readings w t) x and aspects_hold p (readings_in t) (unpacked x)) ≡ (as_wanted w x and all_hold p (readings_in t) (unpacked x))
    unfolding with_readings aspects_hold all_hold readings_in
    readings_too w [] = refl
    readings_too w (kind ∷ []) = refl
    readings_too w (kind ∷ arg ∷ []) = refl
    readings_too w (kind ∷ arg ∷ value ∷ t) =
        let y = unpacked x in
        let v = with_reading kind arg value (length (kind ∷ arg ∷ value ∷ t)) w in
        let one = aspect_holds p y kind arg value in
        between (as_wanted (with_readings v t) x) one (aspects_hold p (readings_in t) y)
        ∙ ap (λ (b : Bool). one and b) (readings_too v t)
        ∙ sym (between (as_wanted v x) one (all_hold p (readings_in t) y))
        ∙ sym (and_group (as_wanted v x) one (all_hold p (readings_in t) y))
        ∙ ap (λ (b : Bool). b and all_hold p (readings_in t) y) (reading_too w kind arg value (length (kind ∷ arg ∷ value ∷ t)))
        ∙ and_group (as_wanted w x) (reading_holds p y kind arg value) (all_hold p (readings_in t) y)

  -- nothing is asked before the first reading
  anything_is_wanted : as_wanted anything x ≡ true
  anything_is_wanted = rw (six_all x.flags, six_all (x.flags / 2 ^ 16)) (line_any (line_free (unpacked x)))
    where
      line_any : (free : Bool) → ((if free then 0 else 1) belongs_to 3) ≡ true
      line_any true = refl
      line_any false = refl

-- ---- where the first aspect is read
codes_aspects : (arg codes : ℕ) (w : Wanted) → (with_codes arg codes w).aspects ≡ w.aspects
codes_aspects arg codes w = go (eqb arg 1)
  where
    go : (b : Bool) → (if b then with_other codes w else with_own codes w).aspects ≡ w.aspects
    go true = refl
    go false = refl

reading_aspects : (w : Wanted) (kind arg value left : ℕ) → (with_reading kind arg value left w).aspects ≡ (if eqb kind 1 then max w.aspects left else w.aspects)
reading_aspects w kind arg value left = go (eqb kind 1) (of_station kind)
  where
    go : (one station : Bool)
        → (if one then with_aspect left w else if station then with_codes arg (codes_where kind value) w else with_line (where_line value) w).aspects
        ≡ (if one then max w.aspects left else w.aspects)
    go true station = refl
    go false true = codes_aspects arg (codes_where kind value) w
    go false false = refl

aspects_kept : (w : Wanted) (t : List ℕ) → length t ≤ w.aspects → (with_readings w t).aspects ≡ w.aspects
unfolding with_readings
aspects_kept w [] h = refl
aspects_kept w (kind ∷ []) h = refl
aspects_kept w (kind ∷ arg ∷ []) h = refl
aspects_kept w (kind ∷ arg ∷ value ∷ t) h =
    let v = with_reading kind arg value (length (kind ∷ arg ∷ value ∷ t)) w in
    let most : max w.aspects (length (kind ∷ arg ∷ value ∷ t)) ≡ w.aspects = omega arith in
    let same : v.aspects ≡ w.aspects = reading_aspects w kind arg value _ ∙ rw most (either_way (eqb kind 1) w.aspects) in
    aspects_kept v t (omega arith) ∙ same

-- from there on the aspects are all that there are
module _ (p : Plan) (y : Situation) where
  abbrev from_first : List ℕ → ℕ → Bool
  from_first t n = aspects_hold p (readings_in (drop (length t - n) t)) y

  aspects_from : (w : Wanted) (t : List ℕ) → w.aspects ≡ 0 → ((with_readings w t).aspects ≤ length t) × (aspects_hold p (readings_in t) y ≡ from_first t (with_readings w t).aspects)
  unfolding with_readings aspects_hold readings_in
  aspects_from w [] h = rw h (omega arith, refl)
  aspects_from w (kind ∷ []) h = rw h (omega arith, refl)
  aspects_from w (kind ∷ arg ∷ []) h = rw h (omega arith, refl)
  aspects_from w (kind ∷ arg ∷ value ∷ t) h = go (eqb kind 1) refl (λ z. aspects_from (with_reading kind arg value (length (kind ∷ arg ∷ value ∷ t)) w) t z)
    where
      whole : List ℕ
      whole = kind ∷ arg ∷ value ∷ t

      v : Wanted
      v = with_reading kind arg value (length whole) w

      Result : Type 0
      Result = ((with_readings v t).aspects ≤ length whole) × (aspects_hold p (readings_in whole) y ≡ from_first whole (with_readings v t).aspects)

      go : (one : Bool) → eqb kind 1 ≡ one → (v.aspects ≡ 0 → ((with_readings v t).aspects ≤ length t) × (aspects_hold p (readings_in t) y ≡ from_first t (with_readings v t).aspects)) → Result
      go true e rest =
          let most : max w.aspects (length whole) ≡ length whole = omega arith in
          let all : v.aspects ≡ length whole = reading_aspects w kind arg value (length whole) ∙ rw (e, most) refl in
          let n : (with_readings v t).aspects ≡ length whole = aspects_kept v t (omega arith) ∙ all in
          let none_left : length whole - length whole ≡ 0 = omega arith in
          rw n (omega arith, rw none_left refl)
      go false e rest =
          let ih = rest (reading_aspects w kind arg value (length whole) ∙ rw e h) in
          let n = (with_readings v t).aspects in
          let on : length whole - n ≡ suc (suc (suc (length t - n))) = omega (arith, ih.0) in
          let kind-is : aspect_holds p y kind arg value ≡ true = rw e refl in (
            omega (arith, ih.0),
            ap (λ (b : Bool). b and aspects_hold p (readings_in t) y) kind-is
                ∙ ih.1
                ∙ ap (λ (j : ℕ). aspects_hold p (readings_in (drop j whole)) y) (sym on),
          )

  pub aspects_within : (w : Wanted) (t : List ℕ) → w ≡ wanted_of t → w.aspects ≤ length t
  aspects_within w t e = rw e (aspects_from anything t refl).0

-- all readings hold: the situation is what they ask put together, and from the first aspect on the aspects hold
pub all_hold_is : (p : Plan) (x : Packed) (w : Wanted) (t : List ℕ) → w ≡ wanted_of t → all_hold p (readings_in t) (unpacked x) ≡ (as_wanted w x and from_first p (unpacked x) t w.aspects)
all_hold_is p x w t e =
    let y = unpacked x in
    sym (ap (λ (b : Bool). b and all_hold p (readings_in t) y) (anything_is_wanted x))
    ∙ sym (readings_too x p anything t)
    ∙ ap (λ (b : Bool). as_wanted (wanted_of t) x and b) (aspects_from p y anything t refl).1
    ∙ rw e refl
