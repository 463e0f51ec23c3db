-- "Plan 4, 2, fresh unless told. To be shown of the rules, as a single table"
use Rattle.std.specs.Prelude.{ℕ, ◌+◌, ◌*◌, ◌^◌, Bool, true, false, List, [], ◌∷◌, ◌≡◌, T, eqb, Float, pos}
use Rattle.words.specs.Words.{◌and◌}
use Rattle.rulebook.specs.Situation.{Kept, blank, out, inward, no_route, normal, ◌becomes◌, ◌with_exit◌, with_stations, with_track, fresh}
use Rattle.rulebook.specs.Judged.{judged}
use Rattle.block.specs.declared.codes.Route.{Route}
use Rattle.block.specs.declared.line.Plan.{Plan}
use Rattle.rulebook.specs.Table.{Sobb, Cobb, Afbli, Afble, Dafbl, Bilc, Dilc, Bslg, BslgOff, Bslb, BslbOff, ExitNormal, ExitSpecial, ExitReleased, Entry, Occupied, Freed, LinkLost, LinkRestored, Second}
use Rattle.rulebook.specs.Apply.{event, applied}
use Rattle.rulebook.specs.Names.{name}
use Rattle.rulebook.specs.Laws as laws
use Rattle.signals.specs.Readings.{value_read}
use Rattle.numeric.specs.Exact.{exact_answer, is_number, exact_value}
use Rattle.marking.specs.Sheet.{marked, Marked}
use Rattle.marking.specs.declared.Answer.{Answer}
use Rattle.marking.specs.declared.Answer.TheVariants.{Seconds}
use Rattle.std.specs.Float.{binary32}
use Rattle.std.specs.Float.Ieee.{round}

infix 90 ◌at◌gives◌
infix 90 ◌at◌gives◌naming◌
infix 80 signal◌shows◌
infix 80 towards_B_show◌
infix 80 towards_A_show◌
infix 80 orientation◌is◌
infix 80 annulment◌is◌
infix 80 line_reads◌
infix 90 ◌seconds_pass
infix 70 with_mark◌counting◌on_sections◌and_route◌is_judged◌
infix 70 ◌then◌
infix 70 in_2012◌then◌
infix 70 ◌then_in_2012_judged◌
infix 70 ◌metres_at◌exactly◌seconds
infix 70 ◌metres_at◌within◌typed◌/2^18_gets◌error◌
infix 70 ◌metres_at◌within_0_no_float_is_right
abbrev pub plan : Plan
plan = record { sections = 4; frontier = 2; rules2012 = false }

-- the same of 2012 (02, Req 05)
abbrev pub plan_of_2012 : Plan
plan_of_2012 = record { sections = 4; frontier = 2; rules2012 = true }

abbrev pub A : ℕ
A = 0

abbrev pub B : ℕ
B = 1

-- ---- the orders and happenings that the examples name, by their codes
abbrev pub SOBB : ℕ
SOBB = Sobb.code

abbrev pub COBB : ℕ
COBB = Cobb.code

abbrev pub AFBLI : ℕ
AFBLI = Afbli.code

abbrev pub AFBLE : ℕ
AFBLE = Afble.code

abbrev pub DAFBL : ℕ
DAFBL = Dafbl.code

abbrev pub BILC : ℕ
BILC = Bilc.code

abbrev pub DILC : ℕ
DILC = Dilc.code

abbrev pub BSLG : ℕ
BSLG = Bslg.code

abbrev pub BSLG_released : ℕ
BSLG_released = BslgOff.code

abbrev pub BSLB : ℕ
BSLB = Bslb.code

abbrev pub BSLB_released : ℕ
BSLB_released = BslbOff.code

abbrev pub entry_route : ℕ
entry_route = Entry.code

abbrev pub exit_route : ℕ
exit_route = ExitNormal.code

abbrev pub special_exit : ℕ
special_exit = ExitSpecial.code

abbrev pub exit_released : ℕ
exit_released = ExitReleased.code

abbrev pub occupied : ℕ
occupied = Occupied.code

abbrev pub freed : ℕ
freed = Freed.code

abbrev pub second_passed : ℕ
second_passed = Second.code

abbrev pub link_lost : ℕ
link_lost = LinkLost.code

abbrev pub link_restored : ℕ
link_restored = LinkRestored.code

-- ---- what a row tells: events with the refusal each gets (0 accepted), then what is read; or a number typed
pub data Tried : Type 0 where
  ◌at◌gives◌ : ℕ → ℕ → ℕ → Tried
  ◌at◌gives◌naming◌ : ℕ → ℕ → ℕ → ℕ → Tried
  ◌seconds_pass : ℕ → Tried

pub data Seen : Type 0 where
  signal◌shows◌ : ℕ → ℕ → Seen
  towards_B_show◌ : List ℕ → Seen
  towards_A_show◌ : List ℕ → Seen
  orientation◌is◌ : ℕ → ℕ → Seen
  annulment◌is◌ : ℕ → ℕ → Seen
  line_reads◌ : ℕ → Seen

pub data Row : Type 0 where
  ◌then◌ : List Tried → List Seen → Row
  in_2012◌then◌ : List Tried → List Seen → Row
  ◌then_in_2012_judged◌ : List Tried → ℕ → Row
  ◌metres_at◌exactly◌seconds : ℕ → ℕ → ℕ → Row
  with_mark◌counting◌on_sections◌and_route◌is_judged◌ : Bool → ℕ → ℕ → Route → ℕ → Row
  ◌metres_at◌within◌typed◌/2^18_gets◌error◌ : ℕ → ℕ → ℕ → ℕ → ℕ → ℕ → Row
  ◌metres_at◌within_0_no_float_is_right : ℕ → ℕ → Row

-- ---- when a row holds
module _ (plan : Plan) where
  abbrev pub show_from : Kept → ℕ → List ℕ → Bool
  show_from x s [] = true
  show_from x s (v ∷ vs) = eqb (value_read plan x 1 s) v and show_from x (s + 1) vs

  abbrev pub is_seen : Kept → Seen → Bool
  is_seen x (signal s shows v) = eqb (value_read plan x 1 s) v
  is_seen x (towards_B_show vs) = show_from x 1 vs
  is_seen x (towards_A_show vs) = show_from x 129 vs
  is_seen x (orientation s is v) = eqb (value_read plan x 2 s) v
  is_seen x (annulment s is v) = eqb (value_read plan x 3 s) v
  is_seen x (line_reads v) = eqb (value_read plan x 5 0) v

  abbrev pub all_seen : Kept → List Seen → Bool
  all_seen x [] = true
  all_seen x (r ∷ rs) = is_seen x r and all_seen x rs

  -- the events get these refusals, and what they lead to passes the test
  abbrev pub go : (Kept → Bool) → Kept → List Tried → Bool
  go end x [] = end x
  go end x ((code at arg gives refusal) ∷ es) = eqb (applied plan x (event code arg)).refusal refusal and go end (applied plan x (event code arg)).next es
  go end x ((code at arg gives refusal naming n) ∷ es) =
      eqb (applied plan x (event code arg)).refusal refusal and eqb (name plan x (event code arg) refusal) n and go end (applied plan x (event code arg)).next es
  go end x ((n seconds_pass) ∷ es) = go end (laws.seconds n plan x) es

-- the fresh situation with this mark, count, set of occupied sections, and exit route of A, which is out then
abbrev pub watched : Bool → ℕ → ℕ → Route → Kept
watched m n k r = with_track (record { occupied = k; watch = record { mark = m; count = n } }) (with_stations (blank becomes out with_exit r) (blank becomes inward) fresh)

-- the float that is nearest to n / 2 ^ 18, and whether it is n / 2 ^ 18 exactly
abbrev pub over_2^18 : ℕ → Float
over_2^18 n = round binary32 false n (2 ^ 18)

abbrev pub Exactly : Float → ℕ → Type 0
Exactly x n = T (is_number x) × ((exact_value x).minus ≡ false) × ((exact_value x).over * 2 ^ 18 ≡ n * (exact_value x).under)

-- accepted, with this verdict and this error
abbrev pub Gets : Marked → ℕ → ℕ → Type 0
Gets m verdict e = (m.refusal ≡ 0) × (m.line.verdict ≡ verdict) × (m.line.error ≡ pos e)

unfoldable pub Holds : Row → Type 0
Holds (es then rs) = T (go plan (λ x. all_seen plan x rs) fresh es)
Holds (in_2012 es then rs) = T (go plan_of_2012 (λ x. all_seen plan_of_2012 x rs) fresh es)
-- what is accepted in 2024, judged in 2012
Holds (es then_in_2012_judged refusal) = T (go plan (λ x. eqb (judged plan_of_2012 x) refusal) fresh es)
Holds (with_mark m counting n on_sections k and_route r is_judged refusal) = judged plan (watched m n k r) ≡ refusal
Holds (d metres_at v exactly t seconds) = (exact_answer 1 d v).top ≡ t * (exact_answer 1 d v).bottom
Holds (d metres_at v within tolerance typed n /2^18_gets verdict error e) =
    Exactly (over_2^18 n) n × Gets (marked 1 d v tolerance (Seconds (over_2^18 n))) verdict e
-- every answer is accepted, and none is right
Holds (d metres_at v within_0_no_float_is_right) = (a : Answer) → ((marked 1 d v 0 a).refusal ≡ 0) × ((marked 1 d v 0 a).line.verdict ≡ 1 → ⊥)

unfoldable pub All : List Row → Type 0
All [] = Unit {0}
All (r ∷ rs) = Holds r × All rs

abbrev pub table : List Row
table =
    -- 1. Exit route A: 12.
    ((exit_route at A gives 12 ∷ []) then [])
    -- 2. SOBB A, COBB B: aspects 1..4 are 0,2,2,1; towards A all 0. Then exit route A: signal 1 is 2; exit route B: 13.
    -- "example 2 now ends in 15" (02, Req 01)
    ∷ ((SOBB at A gives 0 ∷ COBB at B gives 0 ∷ []) then (towards_B_show (0 ∷ 2 ∷ 2 ∷ 1 ∷ []) ∷ towards_A_show (0 ∷ 0 ∷ 0 ∷ 0 ∷ []) ∷ []))
    ∷ ((SOBB at A gives 0 ∷ COBB at B gives 0 ∷ exit_route at A gives 0 ∷ []) then (signal 1 shows 2 ∷ []))
    ∷ ((SOBB at A gives 0 ∷ COBB at B gives 0 ∷ exit_route at A gives 0 ∷ exit_route at B gives 15 ∷ []) then [])
    -- 3. After the first two orders of 2, link lost: 1..4 are 0,1,2,1.
    ∷ ((SOBB at A gives 0 ∷ COBB at B gives 0 ∷ link_lost at 0 gives 0 ∷ []) then (towards_B_show (0 ∷ 1 ∷ 2 ∷ 1 ∷ []) ∷ []))
    -- 4. AFBLE A, AFBLE B: signals 2 and 131 yellow, all others red.
    ∷ ((AFBLE at A gives 0 ∷ AFBLE at B gives 0 ∷ []) then (towards_B_show (0 ∷ 1 ∷ 0 ∷ 0 ∷ []) ∷ towards_A_show (0 ∷ 0 ∷ 1 ∷ 0 ∷ []) ∷ []))
    -- 5. AFBLE A, then 2 occupied: annulment 0. With 1 occupied first: kept.
    ∷ ((AFBLE at A gives 0 ∷ occupied at 2 gives 0 ∷ []) then (annulment A is 0 ∷ []))
    ∷ ((AFBLE at A gives 0 ∷ occupied at 1 gives 0 ∷ occupied at 2 gives 0 ∷ []) then (annulment A is 2 ∷ []))
    -- 6. BSLG A then AFBLI A accepted; AFBLI A then BSLG A: 8.
    ∷ ((BSLG at A gives 0 ∷ AFBLI at A gives 0 ∷ []) then [])
    ∷ ((AFBLI at A gives 0 ∷ BSLG at A gives 8 ∷ []) then [])
    -- 7. AFBLE A: normal exit 8, special accepted; with BILC 11.
    ∷ ((AFBLE at A gives 0 ∷ exit_route at A gives 8 ∷ special_exit at A gives 0 ∷ []) then [])
    ∷ ((AFBLE at A gives 0 ∷ BILC at A gives 0 ∷ exit_route at A gives 11 ∷ special_exit at A gives 11 ∷ []) then [])
    -- 8. SOBB A, COBB B, link lost, AFBLE A: B still in; link restored: both none.
    ∷ ((SOBB at A gives 0 ∷ COBB at B gives 0 ∷ link_lost at 0 gives 0 ∷ AFBLE at A gives 0 ∷ []) then (orientation B is 2 ∷ []))
    ∷ ((SOBB at A gives 0 ∷ COBB at B gives 0 ∷ link_lost at 0 gives 0 ∷ AFBLE at A gives 0 ∷ link_restored at 0 gives 0 ∷ [])
    then (orientation A is 0 ∷ orientation B is 0 ∷ []))
    -- 9. 1,500 m, 100 km/h: 54. Tolerance 50: 14168883/2^18 right, error 49; 14168884/2^18 wrong, error 50.
    ∷ (1500 metres_at 100 exactly 54 seconds)
    ∷ (1500 metres_at 100 within 50 typed 14168883 /2^18_gets 1 error 49)
    ∷ (1500 metres_at 100 within 50 typed 14168884 /2^18_gets 0 error 50)
    -- 10. 1,000 m, 70 km/h, tolerance 0: no float is right.
    ∷ (1000 metres_at 70 within_0_no_float_is_right)
    -- what 13, 15 and 9 name (02, Req 01), beside the marked ones
    ∷ ((SOBB at A gives 0 ∷ COBB at B gives 0 ∷ occupied at 3 gives 0 ∷ occupied at 2 gives 0 ∷ exit_route at B gives 13 naming 2 ∷ []) then [])
    ∷ ((SOBB at A gives 0 ∷ COBB at B gives 0 ∷ exit_route at A gives 0 ∷ exit_route at B gives 15 naming 0 ∷ occupied at 1 gives 0 ∷ special_exit at B gives 13 naming 1 ∷ []) then [])
    ∷ ((SOBB at B gives 0 ∷ COBB at A gives 0 ∷ exit_route at B gives 0 ∷ SOBB at A gives 9 naming B ∷ AFBLI at B gives 9 naming B ∷ []) then [])
    ∷ ((AFBLE at A gives 0 ∷ special_exit at A gives 0 ∷ DAFBL at A gives 0 ∷ AFBLE at B gives 0 ∷ special_exit at B gives 0 ∷ DAFBL at B gives 0 ∷ SOBB at B gives 9 naming A ∷ AFBLE at B gives 9 naming B ∷ BILC at A gives 9 naming A ∷ []) then [])
    -- both exit signals off red, over two sections, under AFBLE (beside 02, Req 03)
    ∷ ((AFBLE at A gives 0 ∷ AFBLE at B gives 0 ∷ special_exit at A gives 0 ∷ special_exit at B gives 0 ∷ []) then (towards_B_show (2 ∷ 1 ∷ 0 ∷ 0 ∷ []) ∷ towards_A_show (0 ∷ 0 ∷ 1 ∷ 2 ∷ []) ∷ []))
    -- ten seconds after a stray occupation (02, Req 02): 13 names section 0, the line is not free, and its first section does not turn it
    ∷ ((SOBB at A gives 0 ∷ COBB at B gives 0 ∷ occupied at 3 gives 0 ∷ freed at 3 gives 0 ∷ exit_route at B gives 13 naming 0 ∷ 9 seconds_pass ∷ exit_route at B gives 13 naming 0 ∷ 1 seconds_pass ∷ exit_route at B gives 0 ∷ [])
    then (orientation B is 1 ∷ []))
    ∷ ((occupied at 3 gives 0 ∷ freed at 3 gives 0 ∷ 9 seconds_pass ∷ []) then (line_reads 1 ∷ []))
    ∷ ((occupied at 3 gives 0 ∷ freed at 3 gives 0 ∷ 10 seconds_pass ∷ []) then (line_reads 0 ∷ []))
    ∷ ((SOBB at A gives 0 ∷ COBB at B gives 0 ∷ occupied at 3 gives 0 ∷ freed at 3 gives 0 ∷ occupied at 4 gives 0 ∷ freed at 4 gives 0 ∷ 9 seconds_pass ∷ []) then (orientation B is 2 ∷ line_reads 1 ∷ []))
    -- an exit route of the station that is out ends it
    ∷ ((SOBB at A gives 0 ∷ COBB at B gives 0 ∷ occupied at 3 gives 0 ∷ freed at 3 gives 0 ∷ exit_route at A gives 0 ∷ exit_released at A gives 0 ∷ []) then (line_reads 0 ∷ []))
    -- AFBLE that stays on its own first section does not stop the mark; A's first section does not turn the line either; the argument is 0
    ∷ ((AFBLE at A gives 0 ∷ occupied at 1 gives 0 ∷ freed at 1 gives 0 ∷ []) then (annulment A is 2 ∷ line_reads 1 ∷ []))
    ∷ ((SOBB at B gives 0 ∷ COBB at A gives 0 ∷ occupied at 2 gives 0 ∷ freed at 2 gives 0 ∷ occupied at 1 gives 0 ∷ second_passed at 1 gives 4 ∷ []) then (orientation A is 2 ∷ []))
    -- across the frontier nothing is expected with link down
    ∷ ((SOBB at A gives 0 ∷ COBB at B gives 0 ∷ exit_route at A gives 0 ∷ occupied at 1 gives 0 ∷ exit_released at A gives 0 ∷ occupied at 2 gives 0 ∷ link_lost at 0 gives 0 ∷ occupied at 3 gives 0 ∷ freed at 1 gives 0 ∷ freed at 2 gives 0 ∷ freed at 3 gives 0 ∷ link_restored at 0 gives 0 ∷ [])
    then (line_reads 1 ∷ []))
    -- what is sound of mark and count
    ∷ (with_mark true counting 10 on_sections 0 and_route no_route is_judged 0)
    ∷ (with_mark true counting 0 on_sections 4 and_route no_route is_judged 0)
    ∷ (with_mark true counting 11 on_sections 0 and_route no_route is_judged 2)
    ∷ (with_mark false counting 5 on_sections 0 and_route no_route is_judged 2)
    ∷ (with_mark true counting 5 on_sections 4 and_route no_route is_judged 2)
    ∷ (with_mark true counting 0 on_sections 0 and_route no_route is_judged 2)
    ∷ (with_mark true counting 0 on_sections 4 and_route normal is_judged 2)
    -- 6 and 7 as 2012 has them (02, Req 05): BSLG A then AFBLI A: 16; AFBLE A then BILC A: 8
    ∷ (in_2012 (BSLG at A gives 0 ∷ AFBLI at A gives 16 ∷ []) then (annulment A is 0 ∷ []))
    ∷ (in_2012 (AFBLE at A gives 0 ∷ BILC at A gives 8 ∷ BSLG at A gives 8 ∷ []) then (annulment A is 2 ∷ []))
    -- "11 BILC, 16 BSLG, 17 BSLB, in that order", after 10, and of BSLB that of either direction; signal 130 covers section 2 towards A
    ∷ (in_2012 (BILC at A gives 0 ∷ BSLG at A gives 0 ∷ BSLB at 130 gives 0 ∷ entry_route at A gives 0 ∷ AFBLE at A gives 10 ∷ AFBLI at A gives 11 naming 0 ∷ DILC at A gives 0 ∷ AFBLI at A gives 16 naming 0 ∷ BSLG_released at A gives 0 ∷ AFBLI at A gives 17 naming 0 ∷ BSLB_released at 130 gives 0 ∷ AFBLI at A gives 0 ∷ [])
    then (annulment A is 1 ∷ []))
    -- "in the station's own area": of signal 3 it is B's; BSLB's own is the owner of its section
    ∷ (in_2012 (BSLB at 3 gives 0 ∷ AFBLI at A gives 0 ∷ AFBLE at B gives 17 ∷ BSLB at 2 gives 8 ∷ BSLB at 131 gives 0 ∷ []) then (annulment A is 1 ∷ annulment B is 0 ∷ []))
    -- the releases check nothing new; and what 2024 says beside the exclusions, 2012 says too: 7 without BILC, and 4
    ∷ (in_2012 (AFBLI at A gives 0 ∷ DILC at A gives 5 ∷ BSLG_released at A gives 5 ∷ BSLB_released at 2 gives 5 ∷ DAFBL at A gives 0 ∷ []) then (annulment A is 0 ∷ []))
    ∷ (in_2012 (AFBLE at A gives 0 ∷ exit_route at A gives 8 ∷ special_exit at A gives 0 ∷ []) then [])
    ∷ (in_2012 (AFBLE at A gives 0 ∷ AFBLE at B gives 0 ∷ []) then (towards_B_show (0 ∷ 1 ∷ 0 ∷ 0 ∷ []) ∷ towards_A_show (0 ∷ 0 ∷ 1 ∷ 0 ∷ []) ∷ []))
    -- "In that edition a situation with such a pair is not sound."
    ∷ ((BSLG at A gives 0 ∷ AFBLI at A gives 0 ∷ []) then_in_2012_judged 2)
    ∷ ((AFBLE at B gives 0 ∷ BILC at B gives 0 ∷ []) then_in_2012_judged 2)
    ∷ ((AFBLI at A gives 0 ∷ BSLB at 2 gives 0 ∷ []) then_in_2012_judged 2)
    ∷ ((AFBLI at A gives 0 ∷ BSLB at 130 gives 0 ∷ []) then_in_2012_judged 2)
    ∷ ((AFBLI at A gives 0 ∷ BILC at B gives 0 ∷ BSLG at B gives 0 ∷ BSLB at 3 gives 0 ∷ []) then_in_2012_judged 0)
    -- a train that is expected everywhere leaves a free line behind it at once
    ∷ ((SOBB at A gives 0 ∷ COBB at B gives 0 ∷ exit_route at A gives 0 ∷ occupied at 1 gives 0 ∷ exit_released at A gives 0 ∷ occupied at 2 gives 0 ∷ freed at 1 gives 0 ∷ occupied at 3 gives 0 ∷ freed at 2 gives 0 ∷ freed at 3 gives 0 ∷ [])
    then (line_reads 0 ∷ []))
    ∷ []
