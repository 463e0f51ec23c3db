-- (02, Req 01) What refusals name: 13 the lowest occupied section, or 0 where a count runs alone (Req 02), 9 a station that has an exit route, every other number nothing; and that 15 is for
-- a free track with an exit route at the other station. Assumes nothing.
use Rattle.std.specs.Prelude.{if◌then◌else◌}
use Prim.Native.Nat.{ℕ, ◌≤◌, ◌<◌}
use mathlib.Core.Bool.{Bool, true, false, not, false≢true}
use mathlib.Core.Logic.{◌⊎◌, inl, inr, ⊎_elim}
use mathlib.Core.Path.{◌≡◌, refl, sym, ap, subst, ◌∙◌}
use native.Mathlib.Decide.{dec_lt}
use native.Mathlib.Omega.{arith}
use borrow.Author.Tests.{not-true, not-false, eq-eqb, ne_eqb, eqb-false, eqb-true, le-leb}
use lib.Dec.{T, eqb, leb, eqb→eq, leb→le}
use Rattle.words.specs.Words.{◌and◌, ◌or◌}
use Rattle.words.proofs.Tests.{and_at, and_of, or_at, twice_not, holds_is, is_holds, if_case}
use Rattle.sections.specs.Sections.{none, ◌belongs_to◌, sections_up_to}
use Rattle.sections.proofs.SetLaws.{no_sections, none_outside}
use Rattle.block.specs.Line.{is_plan, opposite, station_named}
use Rattle.block.proofs.PlanLaws.{plan_short}
use Rattle.rulebook.specs.Situation.{Situation, Kept, seen_from, station, any_exit_route, count_runs, track_free, ◌is_in, ◌has_exit_route}
use Rattle.rulebook.specs.Sound.{sound, held_sound}
use Rattle.rulebook.specs.Judged.{judged}
use Rattle.rulebook.specs.Checks.{Row, ⟶◌, ◌┃◌, ◌when◌, enough_when◌, refusal}
use Rattle.rulebook.specs.Place.{place}
use Rattle.rulebook.specs.Table as events
use Rattle.rulebook.specs.Table.{Kind, Afbli, Afble, Bilc, ExitNormal, ExitSpecial, table, kind_of}
use Rattle.rulebook.specs.Apply.{refuses, refusal_at, known, fits, argument_right, named, spot, own_refusal, reached, accepted, refused, acted, stepped, applied, Outcome}
use Rattle.rulebook.specs.Names.{lowest_from, lowest_occupied, station_argument, any_checked, route_holder, own_of, name}
use Rattle.block.specs.declared.line.Plan.{Plan}
use Rattle.block.specs.declared.line.Name.{Name}
use Rattle.block.specs.declared.line.Name.TheVariants.{StationA, StationB}
use Rattle.block.specs.declared.line.Direction.TheVariants.{TowardsA, TowardsB}
use Rattle.block.specs.declared.event.Event.{Event}
use Rattle.block.specs.declared.event.Spot.{Spot}
use Rattle.rulebook.proofs.InTable.{All, Known, by_test, by_equation, at_code, its_code}
use Rattle.rulebook.proofs.Judged.{judged_plan, judged_sound}
use Rattle.rulebook.proofs.LowestSection.{Lowest, NoneOf, lowest, lowest_of_none, lowest_below}
use Rattle.rulebook.proofs.SoundnessKept.{parts}
use Rattle.rulebook.proofs.WatchRight.{track_seen}
use Rattle.rulebook.specs.Laws.{LowestOccupied, CountAlone, ThirteenNames, FifteenMeans, NineNames, OthersNameNothing}

-- ---- what a row's refusal says of its checks
-- a check of number n fails
abbrev fails_at : ℕ → Row → Bool
fails_at n (⟶ y) = false
fails_at n ((m when v) ┃ rest) = if eqb m n then v or fails_at n rest else fails_at n rest
fails_at n ((enough_when v) ┃ rest) = fails_at n rest

-- the same of a check that stands before the first of number m
abbrev fails_before : ℕ → ℕ → Row → Bool
fails_before m n (⟶ y) = false
fails_before m n ((k when v) ┃ rest) = if eqb k m then false else if eqb k n then v or fails_before m n rest else fails_before m n rest
fails_before m n ((enough_when v) ┃ rest) = fails_before m n rest

module _ (n : ℕ) (some : n ≡ 0 → ⊥) where
  refused_by : (r : Row) → refusal r ≡ n → fails_at n r ≡ true
  refused_by (⟶ y) e = absurd (some (sym e))
  refused_by ((m when true) ┃ rest) e = rw (eq-eqb m n e) refl
  refused_by ((m when false) ┃ rest) e = if_case (λ (v : Bool). v ≡ true) (eqb m n) (fails_at n rest) (fails_at n rest) (λ t. refused_by rest e) (λ t. refused_by rest e)
  refused_by ((enough_when true) ┃ rest) e = absurd (some (sym e))
  refused_by ((enough_when false) ┃ rest) e = refused_by rest e

  passed_before : (k : ℕ) (r : Row) → refusal r ≡ n → fails_before n k r ≡ false
  passed_before k (⟶ y) e = refl
  passed_before k ((m when true) ┃ rest) e = rw (eq-eqb m n e) refl
  passed_before k ((m when false) ┃ rest) e =
      let later = passed_before k rest e in
      let Passed : Bool → Type 0 = λ (v : Bool). v ≡ false in
      if_case Passed (eqb m n) false _ (λ t. refl) (λ t. if_case Passed (eqb m k) (fails_before n k rest) (fails_before n k rest) (λ u. later) (λ u. later))
  passed_before k ((enough_when true) ┃ rest) e = absurd (some (sym e))
  passed_before k ((enough_when false) ┃ rest) e = passed_before k rest e

-- ---- tests
alone : (v w : Bool) → (v or false) ≡ w → v ≡ w
alone true w e = e
alone false w e = e

both_so : (a b : Bool) → (a and b) ≡ true → (a ≡ true) × (b ≡ true)
both_so true b e = (refl, e)
both_so false b e = absurd (false≢true e)

not_second : (a b : Bool) → a ≡ true → (a and not b) ≡ false → b ≡ true
not_second true true h e = refl
not_second true false h e = absurd (false≢true (sym e))
not_second false b h e = absurd (false≢true h)

-- ---- the checks 13, 15 and 9 of every kind
abbrev exits : ℕ → Bool
exits c = eqb c ExitNormal.code or eqb c ExitSpecial.code

abbrev check_own : ℕ → Bool
check_own c = eqb c Afbli.code or eqb c Afble.code or eqb c Bilc.code

module _ (at : Spot) (x : Situation) where
  abbrev row_of : Kind → Row
  row_of k = k.row (place at x) x

  abbrev not_free : Bool
  not_free = x.traffic.own is_in and not (track_free x.traffic.track)

  abbrev routed : Bool
  routed = x.traffic.own is_in and x.traffic.other has_exit_route

  -- what two tests of kinds give of a code, where they agree over the table
  at_known : (f : Kind → Bool) (g : ℕ → Bool) → All (λ k. f k ≡ g k.code) table → (c : ℕ) → Known c → g c ≡ f (kind_of c)
  at_known f g a c ok = ap g (sym (its_code c ok)) ∙ sym (at_code (λ k. f k ≡ g k.code) a c ok)

  abbrev of_exit : Bool → ℕ → Bool
  of_exit v c = exits c and (v or false)

  not_free_at : (c : ℕ) → Known c → of_exit not_free c ≡ fails_at 13 (row_of (kind_of c))
  not_free_at = at_known (λ k. fails_at 13 (row_of k)) (of_exit not_free) (by_equation (λ k. fails_at 13 (row_of k)) (λ k. of_exit not_free k.code) table refl)

  routed_at : (c : ℕ) → Known c → of_exit routed c ≡ fails_at 15 (row_of (kind_of c))
  routed_at = at_known (λ k. fails_at 15 (row_of k)) (of_exit routed) (by_equation (λ k. fails_at 15 (row_of k)) (λ k. of_exit routed k.code) table refl)

  not_free_before : (c : ℕ) → Known c → of_exit not_free c ≡ fails_before 15 13 (row_of (kind_of c))
  not_free_before = at_known (λ k. fails_before 15 13 (row_of k)) (of_exit not_free) (by_equation (λ k. fails_before 15 13 (row_of k)) (λ k. of_exit not_free k.code) table refl)

  is_not_free : (c : ℕ) → Known c → refuses (kind_of c) at x ≡ 13 → track_free x.traffic.track ≡ false
  is_not_free c ok e =
      let h = both_so (exits c) (not_free or false) (not_free_at c ok ∙ refused_by 13 (λ z. omega (arith, z)) (row_of (kind_of c)) e) in
      not-true (track_free x.traffic.track) (both_so (x.traffic.own is_in) _ (alone not_free true h.1)).1

  is_routed : (c : ℕ) → Known c → refuses (kind_of c) at x ≡ 15
      → ((x.traffic.own is_in) ≡ true) × (track_free x.traffic.track ≡ true) × ((x.traffic.other has_exit_route) ≡ true)
  is_routed c ok e =
      let h = both_so (exits c) (routed or false) (routed_at c ok ∙ refused_by 15 (λ z. omega (arith, z)) (row_of (kind_of c)) e) in
      let passed = not_free_before c ok ∙ passed_before 15 (λ z. omega (arith, z)) 13 (row_of (kind_of c)) e in
      let there = both_so (x.traffic.own is_in) _ (alone routed true h.1) in
      let clear = alone not_free false (ap (λ (v : Bool). v and (not_free or false)) (sym h.0) ∙ passed) in
      (there.0, not_second (x.traffic.own is_in) (track_free x.traffic.track) there.0 clear, there.1)

  -- SOBB and COBB check any exit route, AFBLI, AFBLE and BILC own's, and no other event has the check 9
  abbrev nine : Bool → ℕ → Bool
  nine any c = if any then any_exit_route x or false else check_own c and (x.traffic.own has_exit_route or false)

  nine_at : (c : ℕ) → Known c → (v : Bool) → any_checked c ≡ v → refuses (kind_of c) at x ≡ 9 → nine v c ≡ true
  nine_at c ok v is e =
      ap (λ (w : Bool). nine w c) (sym is)
      ∙ at_known (λ k. fails_at 9 (row_of k)) (λ n. nine (any_checked n) n) (by_equation (λ k. fails_at 9 (row_of k)) (λ k. nine (any_checked k.code) k.code) table refl) c ok
      ∙ refused_by 9 (λ z. omega (arith, z)) (row_of (kind_of c)) e

  any_routed : (c : ℕ) → Known c → any_checked c ≡ true → refuses (kind_of c) at x ≡ 9 → any_exit_route x ≡ true
  any_routed c ok on e = alone (any_exit_route x) true (nine_at c ok true on e)

  own_routed : (c : ℕ) → Known c → any_checked c ≡ false → refuses (kind_of c) at x ≡ 9 → (check_own c ≡ true) × ((x.traffic.own has_exit_route) ≡ true)
  own_routed c ok off e =
      let h = both_so (check_own c) (x.traffic.own has_exit_route or false) (nine_at c ok false off e) in
      (h.0, alone (x.traffic.own has_exit_route) true h.1)

-- the orders that check own's route name a station
names_station : (c : ℕ) → Known c → check_own c ≡ true → (kind_of c).argument ≡ events.station
names_station c ok on =
    let P : Kind → Bool = λ k. not (check_own k.code) or eqb k.argument events.station in
    let h = subst (λ (n : ℕ). T (not (check_own n) or eqb (kind_of c).argument events.station)) (its_code c ok) (at_code (λ k. T (P k)) (by_test P table tt) c ok) in
    eqb→eq (kind_of c).argument events.station (subst (λ (v : Bool). T (not v or eqb (kind_of c).argument events.station)) on h)

not_any : (c : ℕ) → T (check_own c) → any_checked c ≡ false
not_any c t =
    let P : ℕ → Type 0 = λ (n : ℕ). any_checked n ≡ false in
    let at : (n : ℕ) → P n → T (eqb c n) → P c = λ n q u. subst P (sym (eqb→eq c n u)) q in
    ⊎_elim (λ u. ⊎_elim (at Afbli.code refl) (at Afble.code refl) (or_at (eqb c Afbli.code) (eqb c Afble.code) u)) (at Bilc.code refl)
    (or_at (eqb c Afbli.code or eqb c Afble.code) (eqb c Bilc.code) t)

-- ---- stations by their names
as_typed : (arg : ℕ) → T (leb arg 1) → station_argument (station_named arg) ≡ arg
as_typed arg t = go (eqb arg 1) refl
  where
    go : (v : Bool) → eqb arg 1 ≡ v → station_argument (if v then StationB else StationA) ≡ arg
    go true e = sym (eqb-true arg 1 e)
    go false e = omega (arith, leb→le arg 1 t, eqb-false arg 1 e)

own_seen : (s : Name) (x : Kept) → (seen_from s x).traffic.own ≡ station x s
own_seen StationA x = refl
own_seen StationB x = refl

other_seen : (s : Name) (x : Kept) → (seen_from s x).traffic.other ≡ station x (opposite s)
other_seen StationA x = refl
other_seen StationB x = refl

either : (a b : Bool) → (a or b) ≡ true → a ≡ false → b ≡ true
either true b e off = absurd (false≢true (sym off))
either false b e off = e

b_seen : (s : Name) (x : Kept) → any_exit_route (seen_from s x) ≡ true → (station x StationA has_exit_route) ≡ false → (station x StationB has_exit_route) ≡ true
b_seen StationA x any off = either (station x StationA has_exit_route) (station x StationB has_exit_route) any off
b_seen StationB x any off = go (station x StationB has_exit_route) any
  where
    go : (v : Bool) → (v or station x StationA has_exit_route) ≡ true → v ≡ true
    go true e = refl
    go false e = absurd (false≢true (sym off ∙ e))

-- ---- an event refused with a number of its own
judged_few : (p : Plan) (x : Kept) → judged p x ≤ 2
judged_few p x =
    let Few : ℕ → Type 0 = λ (n : ℕ). n ≤ 2 in
    if_case Few (is_plan p) (if sound p x then 0 else 2) 1 (λ t. if_case Few (sound p x) 0 2 (λ s. omega arith) (λ s. omega arith)) (λ t. omega arith)

module _ (p : Plan) (x : Kept) (e : Event) (n : ℕ) (own-number : 5 ≤ n) where
  record Own : Type 0 where
    known : Known e.code
    right : T (argument_right p e)
    plan : T (is_plan p)
    sound : T (sound p x)
    refused : refuses (kind_of e.code) (spot p e) (seen_from (spot p e).own x) ≡ n

  stepped_own : judged p x ≡ 0 → (stepped p x e).refusal ≡ n → Own
  unfolding stepped acted refusal_at
  stepped_own fine =
      let Told : Outcome → Type 0 = λ (o : Outcome). o.refusal ≡ n → Own in
      if_case Told (not (known e)) (refused 3 x) _ (λ t h. absurd (omega (arith, h))) λ k.
      if_case Told (not (argument_right p e)) (refused 4 x) _ (λ t h. absurd (omega (arith, h))) λ r.
      if_case Told (eqb (own_refusal p x e) 0) (accepted (reached p x e)) (refused (own_refusal p x e) x) (λ t h. absurd (omega (arith, h)))
      (λ t h. record { known = twice_not (known e) k; right = twice_not (argument_right p e) r; plan = judged_plan p x fine; sound = judged_sound p x fine; refused = h })

  own_told : (applied p x e).refusal ≡ n → Own
  own_told =
      if_case (λ (o : Outcome). o.refusal ≡ n → Own) (eqb (judged p x) 0) (stepped p x e) (refused (judged p x) x)
      (λ t. stepped_own (eqb→eq (judged p x) 0 t)) (λ t h. absurd (omega (arith, h, judged_few p x)))

-- ---- the laws
pub thirteen_names : ThirteenNames
thirteen_names p x e refused = pick (lowest m 1 n)
  where
    own : Own p x e 13 (omega arith)
    own = own_told p x e 13 (omega arith) refused

    m : ℕ
    m = x.traffic.track.occupied

    n : ℕ
    n = p.sections

    within : T (sections_up_to n m)
    within =
        let sets = (parts p x own.sound).sets in
        (and_at (sections_up_to n m) (held_sound p x TowardsB) (and_at (sections_up_to n m and held_sound p x TowardsB) (held_sound p x TowardsA) sets).0).0

    some : track_free x.traffic.track ≡ false
    some = ap track_free (sym (track_seen (spot p e).own x)) ∙ is_not_free (spot p e) (seen_from (spot p e).own x) e.code own.known own.refused

    alone_runs : m ≡ none → count_runs x.traffic.track.watch ≡ true
    alone_runs empty = not-false (count_runs x.traffic.track.watch) (ap (λ (v : Bool). v and not (count_runs x.traffic.track.watch)) (sym (eq-eqb m none empty)) ∙ some)

    nowhere : NoneOf m 1 n → (j : ℕ) → Dec (0 < j) → Dec (n < j) → (j belongs_to m) ≡ false
    nowhere empty j (yes l) (no h) = empty j (omega arith) (omega arith)
    nowhere empty j (no l) d = none_outside n m within j (λ low high. l (omega arith))
    nowhere empty j (yes l) (yes h) = none_outside n m within j (λ low high. omega arith)

    below : {r : ℕ} → Lowest m 1 n r → (j : ℕ) → j < r → Dec (0 < j) → (j belongs_to m) ≡ false
    below w j h (yes l) = w.least j (omega arith) h
    below w j h (no l) = none_outside n m within j (λ low high. l (omega arith))

    pick : NoneOf m 1 n ⊎ Lowest m 1 n (lowest_from 1 n m) → LowestOccupied p x (lowest_from 1 n m) ⊎ CountAlone x (lowest_from 1 n m)
    pick (inl missing) =
        let empty : m ≡ none = no_sections m (λ j. nowhere missing j (dec_lt 0 j) (dec_lt n j)) in
        inr (record { nothing_occupied = eq-eqb m none empty; running = alone_runs empty; section_0 = ap (lowest_from 1 n) empty ∙ lowest_of_none 1 n })
    pick (inr w) =
        inl (record {
          on_the_line = and_of (leb 1 (lowest_from 1 n m)) (leb (lowest_from 1 n m) n) (is_holds _ (le-leb 1 (lowest_from 1 n m) w.low)) (is_holds _ (le-leb (lowest_from 1 n m) n (omega (arith, w.high))));
          is_occupied = w.found;
          none_below = λ j h. below w j h (dec_lt 0 j);
        })

pub fifteen_means : FifteenMeans
fifteen_means p x e refused =
    let own : Own p x e 15 (omega arith) = own_told p x e 15 (omega arith) refused in
    let s : Name = (spot p e).own in
    let h = is_routed (spot p e) (seen_from s x) e.code own.known own.refused in
    record {
      own_is_in = ap ◌is_in (sym (own_seen s x)) ∙ h.0;
      track_is_free = ap track_free (sym (track_seen s x)) ∙ h.1;
      other_has_route = ap ◌has_exit_route (sym (other_seen s x)) ∙ h.2;
    }

pub nine_names : NineNames
nine_names p x e refused =
    record {
      holder = route_holder x (any_checked e.code) (own_of e);
      is_named = refl;
      has_route = holds (any_checked e.code) refl;
      own_where_checked = λ t. ap (λ (v : Bool). station_argument (route_holder x v (own_of e))) (not_any e.code t) ∙ as_typed e.argument (typed (holds_is (check_own e.code) t));
      else_A_first = λ t a. rw (holds_is (any_checked e.code) t, a) refl;
    }
  where
    own : Own p x e 9 (omega arith)
    own = own_told p x e 9 (omega arith) refused

    s : Name
    s = (spot p e).own

    -- of the orders that check own's route
    typed : check_own e.code ≡ true → T (leb e.argument 1)
    typed on = subst (λ (n : ℕ). T (fits p n e.argument)) (names_station e.code own.known on) own.right

    a_or_b : (v : Bool) → (station x StationA has_exit_route) ≡ v → any_checked e.code ≡ true → (station x (if v then StationA else StationB) has_exit_route) ≡ true
    a_or_b true a on = a
    a_or_b false a on = b_seen s x (any_routed (spot p e) (seen_from s x) e.code own.known on own.refused) a

    holds : (v : Bool) → any_checked e.code ≡ v → (station x (route_holder x v (own_of e)) has_exit_route) ≡ true
    holds true on = a_or_b (station x StationA has_exit_route) refl on
    holds false off =
        let h = own_routed (spot p e) (seen_from s x) e.code own.known off own.refused in
        let is : s ≡ own_of e = ap (λ (n : ℕ). named p n e.argument) (names_station e.code own.known h.0) in
        ap (λ (t : Name). station x t has_exit_route) (sym is) ∙ ap ◌has_exit_route (sym (own_seen s x)) ∙ h.1

pub others_name_nothing : OthersNameNothing
others_name_nothing p x e r a b = rw (ne_eqb r 13 a, ne_eqb r 9 b)

-- ---- a name is a byte
pub name_below : (p : Plan) → T (is_plan p) → (x : Kept) (e : Event) (r : ℕ) → name p x e r < 256
name_below p plan x e r =
    let Byte : ℕ → Type 0 = λ (n : ℕ). n < 256 in
    let holder : Name = route_holder x (any_checked e.code) (own_of e) in
    if_case Byte (eqb r 13) (lowest_occupied p x) _ (λ t. omega (arith, lowest_below x.traffic.track.occupied 1 p.sections, plan_short p plan)) λ t.
    if_case Byte (eqb r 9) (station_argument holder) 0 (λ u. a_number holder) (λ u. omega arith)
  where
    a_number : (s : Name) → station_argument s < 256
    a_number StationA = omega arith
    a_number StationB = omega arith
