-- (02, Req 05) Every accepted event keeps apart what 2012 keeps apart: by reasoning on what it writes of annulment, BILC, BSLG and the held signals.
-- Assumes nothing.
use Rattle.std.specs.Prelude.{if◌then◌else◌}
use Prim.Native.Nat.{ℕ, ◌≤◌, ◌<◌}
use mathlib.Core.Bool.{Bool, true, false, not, true≢false, false≢true}
use mathlib.Core.Path.{◌≡◌, refl, sym, ap, ap₂, subst, ◌∙◌}
use native.Mathlib.Decide.{ℕ_discrete}
use native.Mathlib.Omega.{arith}
use lib.Dec.{T, eqb, eqb→eq}
use Rattle.words.specs.Words.{◌and◌, ◌or◌, ◌implies◌}
use Rattle.words.proofs.Tests.{is_holds, holds_is, fails_is, both_off, not_equal, if_case}
use Rattle.sections.specs.Sections.{◌belongs_to◌, ◌with_section◌, ◌without_section◌}
use Rattle.sections.proofs.SetLaws.{has_with_other, has_without_same, has_without_other}
use Rattle.block.specs.Line.{in_area, owner, opposite, same_station}
use Rattle.block.proofs.SomeSection.{none_of, of_none}
use Rattle.rulebook.specs.Place.{Place, place, held_in_area}
use Rattle.rulebook.specs.Situation.{Station, Held, Signals, Situation, Kept, station, seen_from, kept_from, fresh, with_signals, held_towards, with_held_towards, no_annulment, ◌annulled, ◌annulled_by◌}
use Rattle.rulebook.specs.Sound.{such_a_pair, exclusions_kept}
use Rattle.rulebook.specs.Events.{annulment_kept}
use Rattle.rulebook.specs.Table.{Kind, Dafbl, Bilc, Dilc, Bslg, BslgOff, Bslb, Occupied, kind_of}
use Rattle.rulebook.specs.Apply.{refuses}
use Rattle.rulebook.specs.Editions.{kind_in_2024}
use Rattle.rulebook.specs.Laws.{AFBLI_or_AFBLE}
use Rattle.block.specs.declared.event.Spot.{Spot}
use Rattle.block.specs.declared.line.Plan.{Plan}
use Rattle.block.specs.declared.line.Name.{Name}
use Rattle.block.specs.declared.line.Name.TheVariants.{StationA, StationB}
use Rattle.block.specs.declared.line.Direction.{Direction}
use Rattle.block.specs.declared.line.Direction.TheVariants.{TowardsA, TowardsB}
use Rattle.rulebook.proofs.Accepted.{passed}
use Rattle.rulebook.proofs.Editions.{then_added, first_of_three, by_annulment, added, adds_in_2012}
use Rattle.rulebook.proofs.StationsKept.{next, accepted}
use Rattle.rulebook.proofs.Frame.{Framed, Orders, orders, Order, annuls, lifts, writes_bilc, writes_bslg, may_lift, orders_nothing, order, orders_after, of_signal, held_after, signals_after}

-- a test that fails together with one that holds
asked : (v w : Bool) → (v and w) ≡ false → v ≡ true → w ≡ false
asked true w e f = e
asked false w e f = absurd (false≢true f)

-- ---- the signals held in an area
abbrev any_held : Plan → Name → Held → Bool
any_held p s h = held_in_area p s (with_signals (record { held = h }) fresh)

module _ (p : Plan) (s : Name) where
  -- no signal in the area is held, section by section
  abbrev pub NoneHeld : Held → Type 0
  NoneHeld h = (k : ℕ) → 1 ≤ k → k ≤ p.sections → in_area p s k ≡ true → (d : Direction) → (k belongs_to held_towards d h) ≡ false

  pub none_held : (h : Held) → any_held p s h ≡ false → NoneHeld h
  none_held h e k low high there d = go d (both_off _ _ (asked (in_area p s k) _ (none_of p.sections _ e k low high) there))
    where
      go : (d : Direction) → ((k belongs_to h.towardsb) ≡ false) × ((k belongs_to h.towardsa) ≡ false) → (k belongs_to held_towards d h) ≡ false
      go TowardsA o = o.1
      go TowardsB o = o.0

  pub held_none : (h : Held) → NoneHeld h → any_held p s h ≡ false
  held_none h f = of_none p.sections _ (λ k low high. go k (f k low high) (in_area p s k) refl)
    where
      go : (k : ℕ) → (in_area p s k ≡ true → (d : Direction) → (k belongs_to held_towards d h) ≡ false) → (v : Bool) → in_area p s k ≡ v → (v and ((k belongs_to h.towardsb) or (k belongs_to h.towardsa))) ≡ false
      go k off true e = ap₂ ◌or◌ (off e TowardsB) (off e TowardsA)
      go k off false e = refl

-- ---- a signal more, elsewhere, or one less
module _ (k : ℕ) (short : k < 49) (h : Held) where
  written : (write : ℕ → ℕ) (j : ℕ) → ((m : ℕ) → (j belongs_to m) ≡ false → (j belongs_to write m) ≡ false)
      → (d c : Direction) → (j belongs_to held_towards c h) ≡ false → (j belongs_to held_towards c (with_held_towards d (write (held_towards d h)) h)) ≡ false
  written write j f TowardsA TowardsA e = f h.towardsa e
  written write j f TowardsA TowardsB e = e
  written write j f TowardsB TowardsA e = e
  written write j f TowardsB TowardsB e = f h.towardsb e

  one_less : (j m : ℕ) → (j belongs_to m) ≡ false → (j belongs_to (m without_section k)) ≡ false
  one_less j m e = go (ℕ_discrete k j)
    where
      go : Dec (k ≡ j) → (j belongs_to (m without_section k)) ≡ false
      go (yes d) = subst (λ (i : ℕ). (i belongs_to (m without_section k)) ≡ false) d (has_without_same m k short)
      go (no d) = has_without_other m k j short d ∙ e

  one_more : (j m : ℕ) → (k ≡ j → ⊥) → (j belongs_to m) ≡ false → (j belongs_to (m with_section k)) ≡ false
  one_more j m d e = has_with_other m k j short d ∙ e

  pub stays_none : (p : Plan) (s : Name) (code : ℕ) (d : Direction) → (T (eqb code Bslb.code) → in_area p s k ≡ false)
      → any_held p s h ≡ false → any_held p s (with_held_towards d (held_after code k (held_towards d h)) h) ≡ false
  stays_none p s code d elsewhere e =
      let before : NoneHeld p s h = none_held p s h e in
      if_case (λ (m : ℕ). any_held p s (with_held_towards d m h) ≡ false) (eqb code Bslb.code) (held_towards d h with_section k) (held_towards d h without_section k)
      (λ t. held_none p s (with_held_towards d (held_towards d h with_section k) h) λ j low high there c.
      written (λ (m : ℕ). m with_section k) j (λ m. one_more j m (λ is. true≢false (sym there ∙ sym (ap (in_area p s) is) ∙ elsewhere t))) d c (before j low high there c))
      (λ t. held_none p s (with_held_towards d (held_towards d h without_section k) h) λ j low high there c.
      written (λ (m : ℕ). m without_section k) j (λ m. one_less j m) d c (before j low high there c))

signals_stay : (p : Plan) (s : Name) (code : ℕ) (at : Place) (g : Signals) → (T (of_signal code) → at.section < 49) → (T (eqb code Bslb.code) → in_area p s at.section ≡ false)
    → any_held p s g.held ≡ false → any_held p s (signals_after code at g).held ≡ false
signals_stay p s code at g short elsewhere e =
    if_case (λ (r : Signals). any_held p s r.held ≡ false) (of_signal code) _ g
    (λ t. stays_none at.section (short t) g.held p s code at.direction elsewhere e) (λ t. e)

-- ---- the clause as a fact: of an annulled station
abbrev pub Apart : Orders → Bool → Type 0
Apart o held = o.annulment ≡ true → (o.bilc ≡ false) × (o.bslg ≡ false) × (held ≡ false)

pub no_pair : (o : Orders) (held : Bool) → (o.annulment and (o.bilc or o.bslg or held)) ≡ false → Apart o held
no_pair o held e a =
    let h = both_off (o.bilc or o.bslg) held (sym (ap (λ (v : Bool). v and (o.bilc or o.bslg or held)) a) ∙ e) in
    let g = both_off o.bilc o.bslg h.0 in
    (g.0, g.1, h.1)

pub pair_not : (o : Orders) (held : Bool) → Apart o held → (o.annulment and (o.bilc or o.bslg or held)) ≡ false
pair_not o held f = go o.annulment refl
  where
    go : (v : Bool) → o.annulment ≡ v → (v and (o.bilc or o.bslg or held)) ≡ false
    go true e = let h = f e in ap₂ ◌or◌ (ap₂ ◌or◌ h.0 h.1) h.2
    go false e = refl

-- ---- what an accepted event has passed, in 2012: nothing is added to its refusals
pub record Passed (own : Station) (held : Bool) (code : ℕ) : Type 0 where
  pub annulling : T (AFBLI_or_AFBLE code) → (own.bilc ≡ false) × (own.bslg ≡ false) × (held ≡ false)
  pub bilc : T (eqb code Bilc.code) → (own annulled) ≡ false
  pub bslg : T (eqb code Bslg.code) → (own annulled) ≡ false
  pub bslb : T (eqb code Bslb.code) → (own annulled) ≡ false

none_of_three : (b g h : Bool) → first_of_three b g h ≡ 0 → (b ≡ false) × (g ≡ false) × (h ≡ false)
none_of_three true g h e = absurd (omega (arith, e))
none_of_three false true h e = absurd (omega (arith, e))
none_of_three false false true e = absurd (omega (arith, e))
none_of_three false false false e = (refl, refl, refl)

not_8 : (v : Bool) → by_annulment v ≡ 0 → v ≡ false
not_8 true e = absurd (omega (arith, e))
not_8 false e = refl

zero_added : (r t : ℕ) → then_added r t ≡ 0 → t ≡ 0
zero_added r t = if_case (λ (n : ℕ). n ≡ 0 → t ≡ 0) (eqb r 0) t r (λ u e. e) (λ u e. absurd (not_equal r 0 u e))

module _ (at : Spot) (x : Situation) (old : at.plan.rules2012 ≡ true) (code : ℕ) (a : T (eqb (refuses (kind_of code) at x) 0)) where
  abbrev own : Station
  own = x.traffic.own

  abbrev held : Bool
  held = held_in_area at.plan at.own x

  nothing : added code own held ≡ 0
  nothing = zero_added (refuses (kind_in_2024 (kind_of code)) at x) (added code own held) (sym (adds_in_2012 at x old code) ∙ eqb→eq (refuses (kind_of code) at x) 0 a)

  of_code : (n : ℕ) → T (eqb code n) → added n own held ≡ 0
  of_code n t = subst (λ (m : ℕ). added m own held ≡ 0) (eqb→eq code n t) nothing

  pub has_passed : Passed own held code
  has_passed =
      record {
        annulling = λ t. none_of_three own.bilc own.bslg held (rw (holds_is (AFBLI_or_AFBLE code) t) at nothing);
        bilc = λ t. not_8 (own annulled) (of_code Bilc.code t);
        bslg = λ t. (passed (Bslg.row (place at x) x) tt (subst (λ (m : ℕ). accepted ((kind_of m).row (place at x) x)) (eqb→eq code Bslg.code t) a)).1.0;
        bslb = λ t. not_8 (own annulled) (of_code Bslb.code t);
      }

-- ---- own's clause
module _ (at : Place) (x : Situation) where
  abbrev own_now : Station
  own_now = x.traffic.own

  still_annulled : (v : Bool) → ((own_now annulled_by (if v then own_now.annulment else no_annulment)) annulled) ≡ true → (own_now annulled) ≡ true
  still_annulled true e = e
  still_annulled false e = absurd (false≢true e)

  -- BSLB is accepted at a station that is not annulled; of all else, held signals come by no event
  module _ (code : ℕ) (p : Passed own_now at.held_here code) (later : Bool) (stays : T (not (eqb code Bslb.code)) → at.held_here ≡ false → later ≡ false) (w : Apart (orders own_now) at.held_here) where
    abbrev After : Order → Type 0
    After o = Apart (orders_after at x o) later

    by_bslb : T (eqb code Bslb.code) → After (order code)
    by_bslb t = subst (λ (n : ℕ). After (order n)) (sym (eqb→eq code Bslb.code t)) (λ a. absurd (true≢false (sym a ∙ p.bslb t)))

    by_others : T (not (eqb code Bslb.code)) → After (order code)
    by_others n =
        if_case After (AFBLI_or_AFBLE code) annuls _ (λ t a. let f = p.annulling t in (f.0, f.1, stays n f.2)) λ n3.
        if_case After (eqb code Dafbl.code) lifts _ (λ t a. absurd (false≢true a)) λ n5.
        if_case After (eqb code Bilc.code) (writes_bilc true) _ (λ t a. absurd (true≢false (sym a ∙ p.bilc t))) λ n6.
        if_case After (eqb code Dilc.code) (writes_bilc false) _ (λ t a. let f = w a in (refl, f.1, stays n f.2)) λ n7.
        if_case After (eqb code Bslg.code) (writes_bslg true) _ (λ t a. absurd (true≢false (sym a ∙ p.bslg t))) λ n8.
        if_case After (eqb code BslgOff.code) (writes_bslg false) _ (λ t a. let f = w a in (f.0, refl, stays n f.2)) λ n9.
        if_case After (eqb code Occupied.code) may_lift orders_nothing
        (λ t a. let f = w (still_annulled (annulment_kept at x) a) in (f.0, f.1, stays n f.2))
        (λ t a. let f = w a in (f.0, f.1, stays n f.2))

    pub own_after : After (order code)
    own_after = go (eqb code Bslb.code) refl
      where
        go : (v : Bool) → eqb code Bslb.code ≡ v → After (order code)
        go true e = by_bslb (is_holds (eqb code Bslb.code) e)
        go false e = by_others (is_holds (not (eqb code Bslb.code)) (ap not e))

-- ---- both clauses, as own sees them
pub record Excluded (p : Plan) (s : Name) (x : Situation) : Type 0 where
  pub own : p.rules2012 ≡ true → such_a_pair p s x.traffic.own x ≡ false
  pub other : p.rules2012 ≡ true → such_a_pair p (opposite s) x.traffic.other x ≡ false

-- what the place says, where it is that of the event
pub record Here (e : Kind) (at : Place) (x : Situation) : Type 0 where
  pub held : at.held_here ≡ held_in_area at.plan at.own x
  pub short : T (of_signal e.code) → at.section < 49
  pub owned : T (of_signal e.code) → at.own ≡ owner at.plan at.section
  pub passed : at.plan.rules2012 ≡ true → Passed x.traffic.own at.held_here e.code

first_of : (a b : Bool) → T a → T (a or b)
first_of true b t = tt
first_of false b t = absurd t

never : (v : Bool) → T (not v) → T v → ⊥
never true n t = n
never false n t = t

-- own's area is not the other's
apart : (s : Name) → same_station s (opposite s) ≡ false
apart StationA = refl
apart StationB = refl

module _ (e : Kind) (at : Place) (x : Situation) (f : Framed e at x) (here : Here e at x) where
  abbrev p : Plan
  p = at.plan

  abbrev s : Name
  s = at.own

  stays : (n : Name) → (T (eqb e.code Bslb.code) → in_area p n at.section ≡ false) → held_in_area p n x ≡ false → held_in_area p n (next e at x) ≡ false
  stays n elsewhere h =
      subst (λ (g : Signals). any_held p n g.held ≡ false) (sym f.signals) (signals_stay p n e.code at x.signals here.short elsewhere h)

  own_kept : p.rules2012 ≡ true → such_a_pair p s x.traffic.own x ≡ false → such_a_pair p s (next e at x).traffic.own (next e at x) ≡ false
  own_kept old t =
      let later : Bool = held_in_area p s (next e at x) in
      let w : Apart (orders x.traffic.own) at.held_here = subst (Apart (orders x.traffic.own)) (sym here.held) (no_pair (orders x.traffic.own) (held_in_area p s x) t) in
      let now = own_after at x e.code (here.passed old) later (λ n h. stays s (λ u. absurd (never (eqb e.code Bslb.code) n u)) (sym here.held ∙ h)) w in
      pair_not (orders (next e at x).traffic.own) later (subst (λ (o : Orders). Apart o later) (sym f.own) now)

  other_kept : such_a_pair p (opposite s) x.traffic.other x ≡ false → such_a_pair p (opposite s) (next e at x).traffic.other (next e at x) ≡ false
  other_kept t =
      let later : Bool = held_in_area p (opposite s) (next e at x) in
      let w = no_pair (orders x.traffic.other) (held_in_area p (opposite s) x) t in
      let elsewhere : T (eqb e.code Bslb.code) → in_area p (opposite s) at.section ≡ false = λ u. ap (λ (n : Name). same_station n (opposite s)) (sym (here.owned (first_of (eqb e.code Bslb.code) _ u))) ∙ apart s in
      pair_not (orders (next e at x).traffic.other) later
      (subst (λ (o : Orders). Apart o later) (sym f.other) (λ a. let g = w a in (g.0, g.1, stays (opposite s) elsewhere g.2)))

  pub exclusions_stay : Excluded p s x → Excluded p s (next e at x)
  exclusions_stay t = record { own = λ old. own_kept old (t.own old); other = λ old. other_kept (t.other old) }

-- ---- and of a situation as it is kept
implied : (v a b : Bool) → T (v implies not (a or b)) → v ≡ true → (a ≡ false) × (b ≡ false)
implied true a b t e = both_off a b (fails_is (a or b) t)
implied false a b t e = absurd (false≢true e)

implies_both : (v a b : Bool) → (v ≡ true → (a ≡ false) × (b ≡ false)) → T (v implies not (a or b))
implies_both true a b f = let h = f refl in is_holds (not (a or b)) (ap not (ap₂ ◌or◌ h.0 h.1))
implies_both false a b f = tt

module _ (p : Plan) (x : Kept) where
  abbrev pair_at : Name → Bool
  pair_at s = such_a_pair p s (station x s) x

  pub no_pairs : T (exclusions_kept p x) → p.rules2012 ≡ true → (s : Name) → pair_at s ≡ false
  no_pairs t old StationA = (implied p.rules2012 (pair_at StationA) (pair_at StationB) t old).0
  no_pairs t old StationB = (implied p.rules2012 (pair_at StationA) (pair_at StationB) t old).1

  pub pairs_not : (p.rules2012 ≡ true → (s : Name) → pair_at s ≡ false) → T (exclusions_kept p x)
  pairs_not f = implies_both p.rules2012 (pair_at StationA) (pair_at StationB) (λ old. (f old StationA, f old StationB))

  -- where no station is annulled, there is no such pair
  pub none_annulled : (x.traffic.own annulled) ≡ false → (x.traffic.other annulled) ≡ false → T (exclusions_kept p x)
  none_annulled a b = pairs_not (λ old. go)
    where
      go : (s : Name) → pair_at s ≡ false
      go StationA = ap (λ (v : Bool). v and (x.traffic.own.bilc or x.traffic.own.bslg or held_in_area p StationA x)) a
      go StationB = ap (λ (v : Bool). v and (x.traffic.other.bilc or x.traffic.other.bslg or held_in_area p StationB x)) b

-- as s sees it, and back
pub excluded_seen : (p : Plan) (s : Name) (x : Kept) → T (exclusions_kept p x) → Excluded p s (seen_from s x)
excluded_seen p StationA x t = record { own = λ old. no_pairs p x t old StationA; other = λ old. no_pairs p x t old StationB }
excluded_seen p StationB x t = record { own = λ old. no_pairs p x t old StationB; other = λ old. no_pairs p x t old StationA }

pub seen_excluded : (p : Plan) (s : Name) (y : Situation) → Excluded p s y → T (exclusions_kept p (kept_from s y))
seen_excluded p s y t = pairs_not p (kept_from s y) (λ old. go s t old)
  where
    go : (s : Name) → Excluded p s y → p.rules2012 ≡ true → (n : Name) → such_a_pair p n (station (kept_from s y) n) (kept_from s y) ≡ false
    go StationA t old StationA = t.own old
    go StationA t old StationB = t.other old
    go StationB t old StationA = t.other old
    go StationB t old StationB = t.own old
