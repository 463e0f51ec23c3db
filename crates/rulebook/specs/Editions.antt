-- A reader need not believe this file: the rows of 2024 by themselves, and what 2012 adds to them (02, Req 05), as the code asks for them and as the
-- laws of both editions say.
use Rattle.std.specs.Prelude.{ℕ, true, not, eqb, if◌then◌else◌}
use Rattle.words.specs.Words.{◌or◌}
use Rattle.sections.specs.Sections.{◌belongs_to◌, ◌with_section◌}
use Rattle.rulebook.specs.Situation.{Station, Situation, Kept, station, held, AFBLI, AFBLE, with_own_station, with_bilc, with_held, ◌annulled, ◌has_exit_route}
use Rattle.rulebook.specs.Checks.{Row, ⟶◌, ◌┃◌, ◌when◌}
use Rattle.rulebook.specs.Place.{Place, held_in_area}
use Rattle.rulebook.specs.Events.{annul}
use Rattle.rulebook.specs.Table.{Kind, kind, clears, keeps, Afbli, Afble, Bilc, Bslb, kind_of}
use Rattle.rulebook.specs.Apply.{refusal_at, led_at, known, argument_right, spot, accepted, refused, Outcome}
use Rattle.block.specs.declared.line.Plan.{Plan}
use Rattle.block.specs.declared.event.Event.{Event}

-- ---- the four rows that 2012 adds checks to, as document 01 has them
module _ (at : Place) (x : Situation) where
  abbrev own : Station
  own = x.traffic.own

  -- | 3 | AFBLI | 8 own annulled; 7 own SOBB pending; 9 own exit route | own annulment 1 |
  abbrev pub afbli_in_2024 : Row
  afbli_in_2024 = 8 when own annulled ┃ 7 when x.traffic.pending.own ┃ 9 when own has_exit_route ┃ ⟶ annul at x AFBLI

  -- | 4 | AFBLE | as 3, then 10 own entry route | own annulment 2 |
  abbrev pub afble_in_2024 : Row
  afble_in_2024 = 8 when own annulled ┃ 7 when x.traffic.pending.own ┃ 9 when own has_exit_route ┃ 10 when own.entry ┃ ⟶ annul at x AFBLE

  -- | 6 | BILC | 5; then 9 own exit route | set |
  abbrev pub bilc_in_2024 : Row
  bilc_in_2024 = 5 when own.bilc ┃ 9 when own has_exit_route ┃ ⟶ with_own_station (with_bilc true own) x

  -- | 10 | BSLB (argument: block signal) | 5 | set |
  abbrev pub bslb_in_2024 : Row
  bslb_in_2024 = 5 when (at.section belongs_to held x at.direction) ┃ ⟶ with_held at.direction (held x at.direction with_section at.section) x

abbrev pub kind_in_2024 : Kind → Kind
kind_in_2024 k =
    if eqb k.code Afbli.code then kind Afbli.code Afbli.argument clears afbli_in_2024 else
    if eqb k.code Afble.code then kind Afble.code Afble.argument clears afble_in_2024 else
    if eqb k.code Bilc.code then kind Bilc.code Bilc.argument keeps bilc_in_2024 else
    if eqb k.code Bslb.code then kind Bslb.code Bslb.argument keeps bslb_in_2024 else
    k

-- ---- a step by a table with other rows
module _ (rows : Kind → Kind) (p : Plan) (x : Kept) (e : Event) where
  abbrev pub refusal_by : ℕ
  refusal_by = refusal_at (rows (kind_of e.code)) (spot p e) x

  abbrev pub reached_by : Kept
  reached_by = led_at (rows (kind_of e.code)) (spot p e) x

  unfoldable pub stepped_by : Outcome
  stepped_by =
      if not (known e) then refused 3 x else
      if not (argument_right p e) then refused 4 x else
      if eqb refusal_by 0 then accepted reached_by else
      refused refusal_by x

-- ---- "Refusals, 2012 only: for AFBLI and AFBLE after all checks in 01, 11 BILC, 16 BSLG, 17 BSLB, in that order; for BILC and BSLB, 8 own annulled, after
-- all else."
module _ (p : Plan) (x : Kept) (e : Event) where
  abbrev own_then : Station
  own_then = station x (spot p e).own

  abbrev pub added_in_2012 : ℕ
  added_in_2012 =
      if eqb e.code Afbli.code or eqb e.code Afble.code then (if own_then.bilc then 11 else if own_then.bslg then 16 else if held_in_area p (spot p e).own x then 17 else 0) else
      if eqb e.code Bilc.code or eqb e.code Bslb.code then (if own_then annulled then 8 else 0) else
      0
