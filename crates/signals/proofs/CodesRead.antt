-- What sets of a station's codes tell is what the readings are.
use Rattle.std.specs.Prelude.{if◌then◌else◌, Ok, Err}
use Prim.Native.Nat.{ℕ, zero, suc, ◌/◌, ◌^◌, ◌%◌, ◌<◌}
use mathlib.Core.Path.{◌≡◌, refl, sym, ap, ◌∙◌}
use mathlib.Core.Bool.{Bool, true, false, false≢true}
use native.Mathlib.Omega.{arith}
use lib.Dec.{eqb}
use borrow.Author.Tests.{ne_eqb, le-leb, lt-leb}
use Rattle.words.specs.Words.{◌or◌}
use Rattle.sections.specs.Sections.{◌belongs_to◌}
use Rattle.block.specs.Line.{station_named}
use Rattle.rulebook.specs.Situation.{Station, Kept, line_free, station as Block·station}
use Rattle.block.specs.Codes.{orientation_code, annulment_code, route_code}
use Rattle.block.specs.declared.line.Plan.{Plan}
use Rattle.block.specs.declared.line.Name.TheVariants.{StationA, StationB}
use Rattle.situation.specs.Packed.{flags_of, station_from, unpacked}
use Rattle.situation.specs.CodeSets.{own_codes, other_codes, where_orientation, where_annulment, where_exit}
use Rattle.situation.specs.declared.Situation.{Situation as Packed}
use Rattle.situation.proofs.Exchanged.{others_flags}
use Rattle.situation.proofs.CodeSets.{in_orientation, in_annulment, in_exit, code_below}
use Rattle.signals.specs.Readings.{can_be_read, line_read, value_read}
use Rattle.signals.specs.CodesRead.{code_number, kind_number, kind_numbered, of_station, codes_of, codes_where, code_read}
use Rattle.signals.specs.declared.readings.Code.{Code}
use Rattle.signals.specs.declared.readings.Code.TheVariants.{Orientation, Annulment, ExitRoute}
use Rattle.signals.specs.declared.readings.Kind.{Kind}
use Rattle.block.specs.declared.refused.Refusal.{Refusal}
use Rattle.block.specs.declared.refused.Refusal.TheVariants.{OutOfRange}

module _ (x : Packed) (arg : ℕ) where
  -- a code of the station named, which the sets tell
  tells :
      (sets : ℕ → ℕ) (code : Station → ℕ) → ((m v : ℕ) → ((m % 64) belongs_to sets v) ≡ eqb (code (station_from 0 (flags_of m))) v) →
      (v : ℕ) → (codes_of arg x belongs_to sets v) ≡ eqb (code (Block·station (unpacked x) (station_named arg))) v
  tells sets code tell v = go (eqb arg 1)
    where
      go : (b : Bool) → ((if b then other_codes x else own_codes x) belongs_to sets v) ≡ eqb (code (Block·station (unpacked x) (if b then StationB else StationA))) v
      go true = tell (x.flags / 2 ^ 16) v ∙ ap (λ (t : Station). eqb (code t) v) (others_flags x.flags)
      go false = tell x.flags v

  module _ (p : Plan) (kind : ℕ) (other : eqb kind 1 ≡ false) (h : of_station kind ≡ true) where
    pub in_codes : (v : ℕ) → (codes_of arg x belongs_to codes_where kind v) ≡ eqb (value_read p (unpacked x) kind arg) v
    unfolding value_read
    in_codes v = rw other (go (eqb kind 2) (eqb kind 3) (eqb kind 4) h)
      where
        station : Station
        station = Block·station (unpacked x) (station_named arg)

        go : (two three four : Bool) → (two or three or four) ≡ true →
            (codes_of arg x belongs_to (if two then where_orientation v else if three then where_annulment v else where_exit v))
            ≡ eqb (if two then orientation_code station.orientation else if three then annulment_code station.annulment else if four then route_code station.exit else if line_free (unpacked x) then 0 else 1) v
        go true three four e = tells where_orientation (λ t. orientation_code t.orientation) in_orientation v
        go false true four e = tells where_annulment (λ t. annulment_code t.annulment) in_annulment v
        go false false true e = tells where_exit (λ t. route_code t.exit) in_exit v
        go false false false e = absurd (false≢true e)

    value_below : value_read p (unpacked x) kind arg < 3
    unfolding value_read
    value_below = rw other (go (eqb kind 2) (eqb kind 3) (eqb kind 4) h)
      where
        station : Station
        station = Block·station (unpacked x) (station_named arg)

        go : (two three four : Bool) → (two or three or four) ≡ true →
            (if two then orientation_code station.orientation else if three then annulment_code station.annulment else if four then route_code station.exit else if line_free (unpacked x) then 0 else 1) < 3
        go true three four e = code_below station.orientation.out station.orientation.inward
        go false true four e = code_below station.annulment.afbli station.annulment.afble
        go false false true e = code_below station.exit.normal station.exit.special
        go false false false e = absurd (false≢true e)

    pub read_is : code_read kind (codes_of arg x) ≡ value_read p (unpacked x) kind arg
    read_is = rw (in_codes 1, in_codes 2) (three (value_read p (unpacked x) kind arg) value_below)
      where
        three : (n : ℕ) → n < 3 → (if eqb n 1 then 1 else if eqb n 2 then 2 else 0) ≡ n
        three zero l = refl
        three (suc zero) l = refl
        three (suc (suc zero)) l = refl
        three (suc (suc (suc n))) l = absurd (omega arith)

-- each code of a station is a kind whose argument is a station
pub station_read : (x : Packed) (arg : ℕ) (p : Plan) (code : Code) → code_read (code_number code) (codes_of arg x) ≡ value_read p (unpacked x) (code_number code) arg
station_read x arg p Orientation = read_is x arg p 2 refl refl
station_read x arg p Annulment = read_is x arg p 3 refl refl
station_read x arg p ExitRoute = read_is x arg p 4 refl refl

-- every other kind reads the line
pub line_is : (p : Plan) (x : Kept) (kind arg : ℕ) → eqb kind 1 ≡ false → of_station kind ≡ false → line_read x ≡ value_read p x kind arg
unfolding value_read
line_is p x kind arg other h = rw other (go (eqb kind 2) (eqb kind 3) (eqb kind 4) h)
  where
    station : Station
    station = Block·station x (station_named arg)

    go : (two three four : Bool) → (two or three or four) ≡ false →
        line_read x
        ≡ (if two then orientation_code station.orientation else if three then annulment_code station.annulment else if four then route_code station.exit else if line_free x then 0 else 1)
    go true three four e = absurd (false≢true (sym e))
    go false true four e = absurd (false≢true (sym e))
    go false false true e = absurd (false≢true (sym e))
    go false false false e = refl

-- ---- the kinds' numbers
pub kind_is : (n : ℕ) (kind : Kind) → Ok kind ≡ kind_numbered n → kind_number kind ≡ n
kind_is zero kind e = cc
kind_is (suc zero) kind e = cc
kind_is (suc (suc zero)) kind e = cc
kind_is (suc (suc (suc zero))) kind e = cc
kind_is (suc (suc (suc (suc zero)))) kind e = cc
kind_is (suc (suc (suc (suc (suc zero))))) kind e = cc
kind_is (suc (suc (suc (suc (suc (suc n)))))) kind e =
    let m : ℕ = suc (suc (suc (suc (suc (suc n))))) in
    let above : (k : ℕ) → k < 6 → eqb m k ≡ false = λ k l. ne_eqb m k (λ h. omega arith) in
    let none : Ok kind ≡ Err OutOfRange = rw (above 1 (omega arith), above 2 (omega arith), above 3 (omega arith), above 4 (omega arith), above 5 (omega arith)) at e in
    cc

pub no_kind : (p : Plan) (n arg : ℕ) (refusal : Refusal) → Err refusal ≡ kind_numbered n → (refusal ≡ OutOfRange) × (can_be_read p n arg ≡ false)
no_kind p zero arg refusal e = (cc, refl)
no_kind p (suc zero) arg refusal e = cc
no_kind p (suc (suc zero)) arg refusal e = cc
no_kind p (suc (suc (suc zero))) arg refusal e = cc
no_kind p (suc (suc (suc (suc zero)))) arg refusal e = cc
no_kind p (suc (suc (suc (suc (suc zero))))) arg refusal e = cc
no_kind p (suc (suc (suc (suc (suc (suc n)))))) arg refusal e =
    let m : ℕ = suc (suc (suc (suc (suc (suc n))))) in
    let above : (k : ℕ) → k < 6 → eqb m k ≡ false = λ k l. ne_eqb m k (λ h. omega arith) in
    let none : Err refusal ≡ Err OutOfRange = rw (above 1 (omega arith), above 2 (omega arith), above 3 (omega arith), above 4 (omega arith), above 5 (omega arith)) at e in (
      cc,
      rw (above 1 (omega arith), above 5 (omega arith), le-leb 2 m (omega arith), lt-leb m 4 (omega arith)),
    )
