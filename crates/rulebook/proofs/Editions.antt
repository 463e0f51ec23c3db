-- (02, Req 05) In 2024 every event is judged, and leads, by the rows and the soundness of document 01: the new checks ask for the edition first. In
-- 2012 the checks that are added come after those. Assumes nothing.
use Rattle.std.specs.Prelude.{if◌then◌else◌}
use Prim.Native.Nat.{ℕ, zero, suc}
use mathlib.Core.Bool.{Bool, true, false, not, true≢false}
use mathlib.Core.Path.{◌≡◌, refl, sym, ap, ap₂, subst, ◌∙◌}
use native.Mathlib.Omega.{arith}
use borrow.Author.Tests.{ne_eqb, eqb-true}
use lib.Dec.{T, eqb}
use Rattle.words.specs.Words.{◌or◌}
use Rattle.words.proofs.Tests.{and_true, is_holds, fails_is}
use Rattle.sections.specs.Sections.{◌belongs_to◌}
use Rattle.block.specs.Line.{is_plan}
use Rattle.rulebook.specs.Situation.{Station, Situation, Kept, station, seen_from, kept_from, held, ◌annulled, ◌has_exit_route}
use Rattle.rulebook.specs.Place.{held_in_area}
use Rattle.rulebook.specs.Sound.{sound_in_2024}
use Rattle.rulebook.specs.Judged.{judged}
use Rattle.rulebook.specs.Table.{Kind, Afbli, Afble, Bilc, Bslb, table, unknown, kind_of}
use Rattle.rulebook.specs.Apply.{refuses, leads, refusal_at, led_at, known, argument_right, spot, own_refusal, reached, accepted, refused, acted, stepped, applied, Outcome}
use Rattle.block.specs.declared.line.Plan.{Plan}
use Rattle.block.specs.declared.line.Name.{Name}
use Rattle.block.specs.declared.line.Name.TheVariants.{StationA, StationB}
use Rattle.block.specs.declared.event.Event.{Event}
use Rattle.block.specs.declared.event.Spot.{Spot}
use Rattle.rulebook.proofs.InTable.{Known, each_all, by_test, by_equation, found, its_code}
use Rattle.rulebook.specs.Editions.{kind_in_2024, refusal_by, reached_by, stepped_by, added_in_2012}
use Rattle.rulebook.specs.Laws.{AFBLI_or_AFBLE, judged_in_2024, applied_in_2024, In2024AsBefore, in_2024, AddedIn2012}

-- the plan n, b of an edition, and a spot of it
abbrev of_edition : Bool → Plan → Plan
of_edition v p = record { sections = p.sections; frontier = p.frontier; rules2012 = v }

abbrev in_edition : Bool → Spot → Spot
in_edition v at = record { plan = of_edition v at.plan; own = at.own; section = at.section; direction = at.direction }

abbrev Of : Type 0 → Type 0
Of X = Kind → Spot → Situation → X

-- ---- where events lead: no edition is asked
led_alike : (c : ℕ) (at : Spot) (x : Situation) → leads (kind_of c) at x ≡ leads (kind_in_2024 (kind_of c)) at x
led_alike c at x =
    let now : Of Situation = λ k. leads k in
    let was : Of Situation = λ k. leads (kind_in_2024 k) in
    ap (λ h. h at x) (found (λ k. now k ≡ was k) table (by_equation now was table refl) refl c)

reached_alike : (p : Plan) (x : Kept) (e : Event) → reached p x e ≡ reached_by kind_in_2024 p x e
unfolding led_at
reached_alike p x e = let at : Spot = spot p e in ap (kept_from at.own) (led_alike e.code at (seen_from at.own x))

-- ---- 2024
refused_alike : (c : ℕ) (at : Spot) (x : Situation) → refuses (kind_of c) (in_edition false at) x ≡ refuses (kind_in_2024 (kind_of c)) (in_edition false at) x
refused_alike c at x =
    let now : Of ℕ = λ k at x. refuses k (in_edition false at) x in
    let was : Of ℕ = λ k at x. refuses (kind_in_2024 k) (in_edition false at) x in
    ap (λ h. h at x) (found (λ k. now k ≡ was k) table (by_equation now was table refl) refl c)

refused_alike_kept : (q : Plan) (x : Kept) (e : Event) → own_refusal (of_edition false q) x e ≡ refusal_by kind_in_2024 (of_edition false q) x e
unfolding refusal_at
refused_alike_kept q x e = let p : Plan = of_edition false q in refused_alike e.code (spot p e) (seen_from (spot p e).own x)

refused_in_2024 : (p : Plan) → p.rules2012 ≡ false → (x : Kept) (e : Event) → own_refusal p x e ≡ refusal_by kind_in_2024 p x e
refused_in_2024 p v x e = subst (λ (v : Bool). own_refusal (of_edition v p) x e ≡ refusal_by kind_in_2024 (of_edition v p) x e) (sym v) (refused_alike_kept p x e)

module _ (q : Plan) (x : Kept) (e : Event) where
  abbrev p : Plan
  p = of_edition false q

  abbrev step : ℕ → Kept → Outcome
  step r y =
      if not (known e) then refused 3 x else
      if not (argument_right p e) then refused 4 x else
      if eqb r 0 then accepted y else refused r x

  step_alike : stepped p x e ≡ stepped_by kind_in_2024 p x e
  unfolding stepped acted stepped_by
  step_alike = ap₂ step (refused_alike_kept q x e) (reached_alike p x e)

  judged_alike : judged p x ≡ judged_in_2024 p x
  judged_alike = ap (λ (v : Bool). if is_plan p then (if v then 0 else 2) else 1) (and_true (sound_in_2024 p x))

  applied_alike : applied p x e ≡ applied_in_2024 p x e
  applied_alike = ap₂ (λ (j : ℕ) (o : Outcome). if eqb j 0 then o else refused j x) judged_alike step_alike

pub in_2024_as_before : In2024AsBefore
in_2024_as_before p v x e = subst (λ (v : Bool). applied (of_edition v p) x e ≡ applied_in_2024 (of_edition v p) x e) (sym v) (applied_alike p x e)

-- ---- 2012
-- r where it refuses, else what is added
abbrev pub then_added : ℕ → ℕ → ℕ
then_added r t = if eqb r 0 then t else r

nothing_added : (r : ℕ) → r ≡ then_added r 0
nothing_added zero = refl
nothing_added (suc r) = rw (ne_eqb (suc r) 0 (λ e. omega arith))

-- a check that stands before what is added
before : (n : ℕ) → eqb n 0 ≡ false → (failed : Bool) (r s t : ℕ) → r ≡ then_added s t → (if failed then n else r) ≡ then_added (if failed then n else s) t
before n e true r s t h = sym (ap (λ (v : Bool). if v then t else n) e)
before n e false r s t h = h

-- every kind of the table has an argument
no_argument : (c : ℕ) → eqb (kind_of c).argument 0 ≡ true → kind_of c ≡ unknown
no_argument =
    found (λ k. eqb k.argument 0 ≡ true → k ≡ unknown) table
    (each_all (λ k. T (not (eqb k.argument 0))) (λ k. eqb k.argument 0 ≡ true → k ≡ unknown)
    (λ k t e. absurd (true≢false (sym e ∙ fails_is (eqb k.argument 0) t))) table (by_test (λ k. not (eqb k.argument 0)) table tt))
    (λ e. refl)

-- what is added to the event of a code at a station, by its BILC, BSLG and annulment, and by whether a signal in its area is held
abbrev pub first_of_three : Bool → Bool → Bool → ℕ
first_of_three bilc bslg held = if bilc then 11 else if bslg then 16 else if held then 17 else 0

abbrev pub by_annulment : Bool → ℕ
by_annulment v = if v then 8 else 0

abbrev pub added : ℕ → Station → Bool → ℕ
added c own held =
    if AFBLI_or_AFBLE c then first_of_three own.bilc own.bslg held else
    if eqb c Bilc.code or eqb c Bslb.code then by_annulment (own annulled) else
    0

module _ (at : Spot) (x : Situation) where
  abbrev here : Spot
  here = in_edition true at

  abbrev own : Station
  own = x.traffic.own

  abbrev Adds : ℕ → Type 0
  Adds c = refuses (kind_of c) here x ≡ then_added (refuses (kind_in_2024 (kind_of c)) here x) (added c own (held_in_area here.plan here.own x))

  afbli_adds : Adds Afbli.code
  afbli_adds = before 8 refl (own annulled) _ _ _ (before 7 refl x.traffic.pending.own _ _ _ (before 9 refl (own has_exit_route) _ _ _ refl))

  afble_adds : Adds Afble.code
  afble_adds =
      before 8 refl (own annulled) _ _ _ (before 7 refl x.traffic.pending.own _ _ _ (before 9 refl (own has_exit_route) _ _ _ (before 10 refl own.entry _ _ _ refl)))

  bilc_adds : Adds Bilc.code
  bilc_adds = before 5 refl own.bilc _ _ _ (before 9 refl (own has_exit_route) _ _ _ refl)

  bslb_adds : Adds Bslb.code
  bslb_adds = before 5 refl (at.section belongs_to held x at.direction) _ _ _ refl

  -- to every other event nothing is added
  others : (c : ℕ) → (kind_of c).code ≡ c → eqb c Afbli.code ≡ false → eqb c Afble.code ≡ false → eqb c Bilc.code ≡ false → eqb c Bslb.code ≡ false → Adds c
  others c is e₃ e₄ e₆ e₁₀ =
      let at-is : (n : ℕ) → eqb c n ≡ false → eqb (kind_of c).code n ≡ false = λ n e. ap (λ (m : ℕ). eqb m n) is ∙ e in
      let same : kind_in_2024 (kind_of c) ≡ kind_of c = rw (at-is Afbli.code e₃, at-is Afble.code e₄, at-is Bilc.code e₆, at-is Bslb.code e₁₀) refl in
      let nothing : added c own (held_in_area here.plan here.own x) ≡ 0 = rw (e₃, e₄, e₆, e₁₀) refl in
      nothing_added (refuses (kind_of c) here x) ∙ sym (ap₂ (λ (k : Kind) (t : ℕ). then_added (refuses k here x) t) same nothing)

  -- a code that is no kind is refused with 3 in either edition
  of_unknown : (c : ℕ) → kind_of c ≡ unknown → Adds c
  of_unknown c e = subst (λ (k : Kind). refuses k here x ≡ then_added (refuses (kind_in_2024 k) here x) (added c own (held_in_area here.plan here.own x))) (sym e) refl

  adds_known : (c : ℕ) → Known c → Adds c
  adds_known c ok = go (eqb c Afbli.code) refl (eqb c Afble.code) refl (eqb c Bilc.code) refl (eqb c Bslb.code) refl
    where
      by : (n : ℕ) → eqb c n ≡ true → Adds n → Adds c
      by n e = subst Adds (sym (eqb-true c n e))

      go : (a : Bool) → eqb c Afbli.code ≡ a → (b : Bool) → eqb c Afble.code ≡ b → (i : Bool) → eqb c Bilc.code ≡ i → (h : Bool) → eqb c Bslb.code ≡ h → Adds c
      go true e b f i g h k = by Afbli.code e afbli_adds
      go false e true f i g h k = by Afble.code f afble_adds
      go false e false f true g h k = by Bilc.code g bilc_adds
      go false e false f false g true k = by Bslb.code k bslb_adds
      go false e false f false g false k = others c (its_code c ok) e f g k

  adds : (c : ℕ) → Adds c
  adds c = go (eqb (kind_of c).argument 0) refl
    where
      go : (v : Bool) → eqb (kind_of c).argument 0 ≡ v → Adds c
      go true e = of_unknown c (no_argument c e)
      go false e = adds_known c (is_holds (not (eqb (kind_of c).argument 0)) (ap not e))

-- own as it sees itself, and as it is kept
own_kept : (c : ℕ) (p : Plan) (x : Kept) (s : Name) → added c (seen_from s x).traffic.own (held_in_area p s (seen_from s x)) ≡ added c (station x s) (held_in_area p s x)
own_kept c p x StationA = refl
own_kept c p x StationB = refl

pub adds_in_2012 : (at : Spot) (x : Situation) → at.plan.rules2012 ≡ true → (c : ℕ)
    → refuses (kind_of c) at x ≡ then_added (refuses (kind_in_2024 (kind_of c)) at x) (added c x.traffic.own (held_in_area at.plan at.own x))
adds_in_2012 at x old c =
    subst (λ (v : Bool). refuses (kind_of c) (in_edition v at) x ≡ then_added (refuses (kind_in_2024 (kind_of c)) (in_edition v at) x) (added c x.traffic.own (held_in_area (of_edition v at.plan) at.own x)))
    (sym old) (adds at x c)

refused_in_2012 : (p : Plan) → p.rules2012 ≡ true → (x : Kept) (e : Event) → own_refusal p x e ≡ then_added (refusal_by kind_in_2024 p x e) (added_in_2012 p x e)
unfolding refusal_at
refused_in_2012 p old x e =
    let s : Name = (spot p e).own in
    adds_in_2012 (spot p e) (seen_from s x) old e.code ∙ ap (then_added (refusal_by kind_in_2024 p x e)) (own_kept e.code p x s)

-- in either edition, by what refuses it in 2024
abbrev pub added_by_edition : Plan → Kept → Event → ℕ → ℕ
added_by_edition p x e r = then_added r (if p.rules2012 then added_in_2012 p x e else 0)

pub own_by_edition : (p : Plan) (x : Kept) (e : Event) → own_refusal p x e ≡ added_by_edition p x e (refusal_by kind_in_2024 p x e)
own_by_edition p x e = go p.rules2012 refl
  where
    go : (v : Bool) → p.rules2012 ≡ v → own_refusal p x e ≡ then_added (refusal_by kind_in_2024 p x e) (if v then added_in_2012 p x e else 0)
    go true old = refused_in_2012 p old x e
    go false new = refused_in_2024 p new x e ∙ nothing_added (refusal_by kind_in_2024 p x e)

-- ---- the rows of 2024, and where events lead, are the same in a plan of either edition
rows_alike : (v : Bool) (c : ℕ) (at : Spot) (x : Situation) → refuses (kind_in_2024 (kind_of c)) (in_edition v at) x ≡ refuses (kind_in_2024 (kind_of c)) (in_edition false at) x
rows_alike v c at x =
    let here : Of ℕ = λ k at x. refuses (kind_in_2024 k) (in_edition v at) x in
    let there : Of ℕ = λ k at x. refuses (kind_in_2024 k) (in_edition false at) x in
    ap (λ h. h at x) (found (λ k. here k ≡ there k) table (by_equation here there table refl) refl c)

-- a first section is that of a station, A or B
abbrev at_own : Bool → Name → Spot → Spot
at_own v n at = record { plan = of_edition v at.plan; own = n; section = at.section; direction = at.direction }

leads_alike : (v : Bool) (c : ℕ) (at : Spot) (x : Situation) → leads (kind_of c) (in_edition v at) x ≡ leads (kind_of c) (in_edition false at) x
leads_alike v c at x = go at.own
  where
    of_A : leads (kind_of c) (at_own v StationA at) x ≡ leads (kind_of c) (at_own false StationA at) x
    of_A =
        let here : Of Situation = λ k at x. leads k (at_own v StationA at) x in
        let there : Of Situation = λ k at x. leads k (at_own false StationA at) x in
        ap (λ h. h at x) (found (λ k. here k ≡ there k) table (by_equation here there table refl) refl c)

    of_B : leads (kind_of c) (at_own v StationB at) x ≡ leads (kind_of c) (at_own false StationB at) x
    of_B =
        let here : Of Situation = λ k at x. leads k (at_own v StationB at) x in
        let there : Of Situation = λ k at x. leads k (at_own false StationB at) x in
        ap (λ h. h at x) (found (λ k. here k ≡ there k) table (by_equation here there table refl) refl c)

    go : (n : Name) → leads (kind_of c) (at_own v n at) x ≡ leads (kind_of c) (at_own false n at) x
    go StationA = of_A
    go StationB = of_B

module _ (p : Plan) (x : Kept) (e : Event) where
  -- own, and what it sees
  abbrev s : Name
  s = (spot p e).own

  its_row : refusal_by kind_in_2024 p x e ≡ own_refusal (in_2024 p) x e
  unfolding refusal_at
  its_row = rows_alike p.rules2012 e.code (spot p e) (seen_from s x) ∙ sym (refused_alike_kept p x e)

  leads_there : reached p x e ≡ reached (in_2024 p) x e
  unfolding led_at
  leads_there = ap (kept_from s) (leads_alike p.rules2012 e.code (spot p e) (seen_from s x))

pub added_in_2012_only : AddedIn2012
added_in_2012_only p old x e =
    record {
      refused_so = refused_in_2012 p old x e ∙ ap (λ (r : ℕ). then_added r (added_in_2012 p x e)) (its_row p x e);
      leads_as_ever = leads_there p x e;
    }
