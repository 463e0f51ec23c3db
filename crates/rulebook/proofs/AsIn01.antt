-- (02, Req 01) The checks 13 and 15 together are document 01's one check wherever they are reached: every event is accepted where it was,
-- leads where it led, and is refused with the number that it had, but that 15 was 13. Assumes nothing.
use Rattle.std.specs.Prelude.{if◌then◌else◌}
use Prim.Native.Nat.{ℕ}
use mathlib.Core.Bool.{Bool, true, false, not}
use mathlib.Core.Path.{◌≡◌, refl, sym, ap, subst, ◌∙◌}
use borrow.Author.Tests.{eqb-true}
use lib.Dec.{T, eqb}
use Rattle.words.specs.Words.{◌and◌, ◌or◌}
use Rattle.words.proofs.Tests.{and_at, fails_is}
use Rattle.rulebook.specs.Situation.{Situation, Kept, seen_from, kept_from, ◌is_in, ◌is_none, ◌annulled, ◌under_AFBLE, ◌has_exit_route, track_free, line_free}
use Rattle.rulebook.specs.Checks.{Row, ⟶◌, ◌┃◌, ◌when◌, enough_when◌, refusal}
use Rattle.rulebook.specs.Place.{place}
use Rattle.rulebook.specs.Table.{Kind, ExitNormal, ExitSpecial, table, kind_of}
use Rattle.rulebook.specs.Apply.{refuses, leads, refusal_at, led_at, known, argument_right, spot, own_refusal, reached, accepted, refused, acted, stepped, Outcome}
use Rattle.block.specs.declared.event.Spot.{Spot}
use Rattle.rulebook.proofs.InTable.{Known, by_test, at_code, its_code}
use Rattle.rulebook.specs.Editions.{refusal_by, reached_by, stepped_by}
use Rattle.rulebook.specs.Laws.{kind_in_01, number_in_01, RefusedAsIn01}

-- ---- numbers
-- a check that both rows have
same_check : (n : ℕ) → eqb n 15 ≡ false → (failed : Bool) (r s : ℕ) → (failed ≡ false → r ≡ number_in_01 s) → (if failed then n else r) ≡ number_in_01 (if failed then n else s)
same_check n e true r s h = sym (ap (λ (v : Bool). if v then 13 else n) e)
same_check n e false r s h = h refl

-- accepted is accepted
pub accepted_in_01 : (r : ℕ) → eqb (number_in_01 r) 0 ≡ eqb r 0
accepted_in_01 r = go (eqb r 15) refl
  where
    go : (v : Bool) → eqb r 15 ≡ v → eqb (if v then 13 else r) 0 ≡ eqb r 0
    go true e = sym (ap (λ (n : ℕ). eqb n 0) (eqb-true r 15 e))
    go false e = refl

-- ---- rows that have no 15
abbrev without_15 : Row → Bool
without_15 (⟶ y) = true
without_15 ((n when failed) ┃ rest) = not (eqb n 15) and without_15 rest
without_15 ((enough_when v) ┃ rest) = without_15 rest

same_number : (r : Row) → T (without_15 r) → refusal r ≡ number_in_01 (refusal r)
same_number (⟶ y) t = refl
same_number ((n when failed) ┃ rest) t =
    let h = and_at (not (eqb n 15)) (without_15 rest) t in
    same_check n (fails_is (eqb n 15) h.0) failed (refusal rest) (refusal rest) (λ z. same_number rest h.1)
same_number ((enough_when v) ┃ rest) t = same_check 0 refl v (refusal rest) (refusal rest) (λ z. same_number rest t)

-- ---- the two that have them: 5 stands before, so that own has no exit route, and 6, so that link is up
last_check : (inward link clear own other : Bool) → own ≡ false → not link ≡ false
    → (if inward and not (link and clear and not (own or other)) then 13 else 0) ≡ number_in_01 (if inward and not clear then 13 else if inward and other then 15 else 0)
last_check false link clear own other e f = refl
last_check true false clear own other e f = absurd (subst T f tt)
last_check true true clear true other e f = absurd (subst T e tt)
last_check true true true false true e f = refl
last_check true true true false false e f = refl
last_check true true false false other e f = refl

module _ (at : Spot) (x : Situation) where
  -- k is refused, and leads, as e does, by document 01's rows
  pub record Alike (k e : Kind) : Type 0 where
    pub refused : refuses k at x ≡ number_in_01 (refuses e at x)
    pub led : leads k at x ≡ leads e at x

  last : (x.traffic.own has_exit_route) ≡ false → not x.traffic.link ≡ false
      → (if x.traffic.own is_in and not (line_free x) then 13 else 0)
      ≡ number_in_01 (if x.traffic.own is_in and not (track_free x.traffic.track) then 13 else if x.traffic.own is_in and x.traffic.other has_exit_route then 15 else 0)
  last = last_check (x.traffic.own is_in) x.traffic.link (track_free x.traffic.track) (x.traffic.own has_exit_route) (x.traffic.other has_exit_route)

  normal_refused : refuses (kind_in_01 ExitNormal) at x ≡ number_in_01 (refuses ExitNormal at x)
  normal_refused =
      same_check 5 refl (x.traffic.own has_exit_route) _ _ λ unset.
      same_check 11 refl x.traffic.own.bilc _ _ λ b.
      same_check 8 refl (x.traffic.own annulled) _ _ λ a.
      same_check 14 refl x.traffic.own.reminder _ _ λ r.
      same_check 6 refl (not x.traffic.link) _ _ λ up.
      same_check 12 refl (x.traffic.own is_none) _ _ λ o.
      last unset up

  special_refused : refuses (kind_in_01 ExitSpecial) at x ≡ number_in_01 (refuses ExitSpecial at x)
  special_refused =
      same_check 5 refl (x.traffic.own has_exit_route) _ _ λ unset.
      same_check 11 refl x.traffic.own.bilc _ _ λ b.
      same_check 0 refl (x.traffic.own under_AFBLE) _ _ λ e.
      same_check 8 refl (x.traffic.own annulled) _ _ λ a.
      same_check 6 refl (not x.traffic.link) _ _ λ up.
      same_check 12 refl (x.traffic.own is_none) _ _ λ o.
      last unset up

  -- ---- every kind of the table
  abbrev exits_or_without : ℕ → Kind → Bool
  exits_or_without c k = eqb c ExitNormal.code or eqb c ExitSpecial.code or without_15 (k.row (place at x) x)

  alike : (c : ℕ) → Known c → Alike (kind_in_01 (kind_of c)) (kind_of c)
  alike c ok = go (eqb c ExitNormal.code) refl (eqb c ExitSpecial.code) refl here
    where
      here : T (exits_or_without c (kind_of c))
      here =
          subst (λ (n : ℕ). T (exits_or_without n (kind_of c))) (its_code c ok)
          (at_code (λ k. T (exits_or_without k.code k)) (by_test (λ k. exits_or_without k.code k) table tt) c ok)

      same : eqb c ExitNormal.code ≡ false → eqb c ExitSpecial.code ≡ false → kind_in_01 (kind_of c) ≡ kind_of c
      same e f =
          let code = its_code c ok in
          rw (ap (λ (n : ℕ). eqb n ExitNormal.code) code ∙ e, ap (λ (n : ℕ). eqb n ExitSpecial.code) code ∙ f) refl

      go : (a : Bool) → eqb c ExitNormal.code ≡ a → (b : Bool) → eqb c ExitSpecial.code ≡ b → T (a or b or without_15 ((kind_of c).row (place at x) x)) → Alike (kind_in_01 (kind_of c)) (kind_of c)
      go true e b f t = subst (λ (n : ℕ). Alike (kind_in_01 (kind_of n)) (kind_of n)) (sym (eqb-true c ExitNormal.code e)) (record { refused = normal_refused; led = refl })
      go false e true f t = subst (λ (n : ℕ). Alike (kind_in_01 (kind_of n)) (kind_of n)) (sym (eqb-true c ExitSpecial.code f)) (record { refused = special_refused; led = refl })
      go false e false f t =
          subst (λ (k : Kind). Alike k (kind_of c)) (sym (same e f)) (record { refused = same_number ((kind_of c).row (place at x) x) t; led = refl })

-- ---- a step
abbrev told_in_01 : Outcome → Outcome
told_in_01 o = record { refusal = number_in_01 o.refusal; next = o.next }

own_alike : (r s : ℕ) (x y z : Kept) → s ≡ number_in_01 r → z ≡ y → (if eqb s 0 then accepted z else refused s x) ≡ told_in_01 (if eqb r 0 then accepted y else refused r x)
own_alike r s x y z e f = rw (e, f, accepted_in_01 r) (go (eqb r 0) refl)
  where
    go : (v : Bool) → eqb r 0 ≡ v → (if v then accepted y else refused (number_in_01 r) x) ≡ told_in_01 (if v then accepted y else refused r x)
    go true h = refl
    go false h = refl

step_alike : (k a : Bool) (r s : ℕ) (x y z : Kept) → (T k → (s ≡ number_in_01 r) × (z ≡ y))
    → (if not k then refused 3 x else if not a then refused 4 x else if eqb s 0 then accepted z else refused s x)
    ≡ told_in_01 (if not k then refused 3 x else if not a then refused 4 x else if eqb r 0 then accepted y else refused r x)
step_alike false a r s x y z h = refl
step_alike true false r s x y z h = refl
step_alike true true r s x y z h = own_alike r s x y z (h tt).0 (h tt).1

pub refused_as_in_01 : RefusedAsIn01
unfolding stepped_by stepped acted refusal_at led_at
refused_as_in_01 p x e =
    let at : Spot = spot p e in
    let seen : Situation = seen_from at.own x in
    step_alike (known e) (argument_right p e) (own_refusal p x e) (refusal_by kind_in_01 p x e) x (reached p x e) (reached_by kind_in_01 p x e)
    (λ k. let same = alike at seen e.code k in (same.refused, ap (kept_from at.own) same.led))
