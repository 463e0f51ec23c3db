-- An event is listed once: a place in EV is known by its event. Assumes nothing.
use Prim.Native.Nat.{ℕ, zero, suc, ◌-◌, ◌<◌}
use mathlib.Core.Path.{◌≡◌, refl, sym, ap, ap₂, subst, ◌∙◌}
use mathlib.Core.Logic.{⊎_elim}
use mathlib.Core.Bool.{Bool, true, false, not}
use mathlib.Core.List.Memᴰ.{cases_cons as split-cons}
use mathlib.Core.List.Memᴰ.{head as here}
use mathlib.Core.List.Memᴰ.{not-nil as none}
use mathlib.Core.List.Memᴰ.{tail as later}
use mathlib.Core.List.{List, [], ◌∷◌, Memᴰ}
use native.Mathlib.Omega.{arith}
use borrow.Author.Tests.{eq-eqb}
use lib.ListN.{length, get_or}
use lib.Dec.{T, eqb}
use Rattle.words.specs.Words.{◌and◌, ◌or◌}
use Rattle.words.proofs.Tests.{neither}
use Rattle.keylaws.specs.Rules.{Word}
use Rattle.keylaws.specs.Key.{Permitted as InPlace}
use Rattle.block.specs.declared.event.Event.{Event}
use Rattle.rulebook.specs.Apply.{event}
use Rattle.records.specs.Lists.{event_at}
use Rattle.lists.specs.Refusal.{listed, listed_twice}
use Rattle.paper.specs.Question.{Question}
use Rattle.calllaws.specs.Answers.{events_of, Permitted}

abbrev nobody : Event
nobody = event 0 0

-- ---- places and what stands there
stands_in : (l : List Event) (i : ℕ) → i < length l → Memᴰ (get_or l i nobody) l
stands_in [] i h = absurd (omega arith)
stands_in (e ∷ l) zero h = here refl
stands_in (e ∷ l) (suc i) h = later (stands_in l i (omega arith))

stands_at : (e : Event) (l : List Event) → Memᴰ e l → (i : ℕ) × (i < length l) × (get_or l i nobody ≡ e)
stands_at e [] m = absurd (none m)
stands_at e (d ∷ l) m =
    ⊎_elim (λ h. (0, omega arith, sym h)) (λ n. let r = stands_at e l n in (suc r.0, omega (arith, r.1), r.2)) (split-cons m)

pub permitted_events : (q : Question) (w : Word) → InPlace (length q.events) w → Permitted q (events_of q w)
unfolding event_at
permitted_events q [] h = tt
permitted_events q (p ∷ w) h =
    let one = h 0 (omega arith) in
    (stands_in q.events (p - 1) (omega (arith, one.0, one.1)), permitted_events q w (λ i l. h (suc i) (omega arith)))

pub places : (q : Question) (events : List Event) → Permitted q events → (w : Word) × (events_of q w ≡ events) × InPlace (length q.events) w
unfolding event_at
places q [] h = ([], refl, λ i l. absurd (omega arith))
places q (e ∷ events) h =
    let one = stands_at e q.events h.0 in
    let rest = places q events h.1 in
    let w : Word = suc one.0 ∷ rest.0 in
    let back : suc one.0 - 1 ≡ one.0 = omega arith in
    (w, ap₂ ◌∷◌ (ap (λ (i : ℕ). get_or q.events i nobody) back ∙ one.2) rest.1, in_place one.0 one.1 rest.0 rest.2)
  where
    in_place : (i : ℕ) → i < length q.events → (v : Word) → InPlace (length q.events) v → InPlace (length q.events) (suc i ∷ v)
    in_place i l v h zero k = (omega arith, omega arith)
    in_place i l v h (suc j) k = h j (omega arith)

-- ---- "an event listed twice" is refused
later_listed : (a c : Bool) → c ≡ true → (a or c) ≡ true
later_listed true c h = refl
later_listed false c h = h

listed_at : (l : List Event) (i : ℕ) → i < length l → listed (get_or l i nobody) l ≡ true
unfolding listed
listed_at [] i h = absurd (omega arith)
listed_at (e ∷ l) zero h = rw (eq-eqb e.code e.code refl, eq-eqb e.argument e.argument refl) refl
listed_at (e ∷ l) (suc i) h = let c = get_or l i nobody in later_listed (eqb e.code c.code and eqb e.argument c.argument) (listed c l) (listed_at l i (omega arith))

once_each : (l : List Event) → T (not (listed_twice l)) → (i j : ℕ) → i < length l → j < length l → get_or l i nobody ≡ get_or l j nobody → i ≡ j
unfolding listed_twice
once_each [] h i j a b e = absurd (omega arith)
once_each (d ∷ l) h zero zero a b e = refl
once_each (d ∷ l) h zero (suc j) a b e = absurd (subst (λ (v : Bool). T (not v)) (ap (λ (c : Event). listed c l) e ∙ listed_at l j (omega arith)) (neither (listed d l) (listed_twice l) h).0)
once_each (d ∷ l) h (suc i) zero a b e = absurd (subst (λ (v : Bool). T (not v)) (ap (λ (c : Event). listed c l) (sym e) ∙ listed_at l i (omega arith)) (neither (listed d l) (listed_twice l) h).0)
once_each (d ∷ l) h (suc i) (suc j) a b e = ap suc (once_each l (neither (listed d l) (listed_twice l) h).1 i j (omega arith) (omega arith) e)

head : List Event → Event
head [] = nobody
head (e ∷ l) = e

tail : List Event → List Event
tail [] = []
tail (e ∷ l) = l

pub known_by_events : (q : Question) → T (not (listed_twice q.events)) → (v w : Word) → InPlace (length q.events) v → InPlace (length q.events) w → events_of q v ≡ events_of q w → v ≡ w
unfolding event_at head tail
known_by_events q once [] [] h k e = refl
known_by_events q once [] (p ∷ w) h k e = let n : ◌≡◌ {A = ℕ} 0 (suc (length (events_of q w))) = ap length e in absurd (omega arith)
known_by_events q once (p ∷ v) [] h k e = let n : ◌≡◌ {A = ℕ} (suc (length (events_of q v))) 0 = ap length e in absurd (omega arith)
known_by_events q once (p ∷ v) (r ∷ w) h k e =
    let a = h 0 (omega arith) in
    let b = k 0 (omega arith) in
    let same = once_each q.events once (p - 1) (r - 1) (omega (arith, a.0, a.1)) (omega (arith, b.0, b.1)) (ap head e) in
    let one : p ≡ r = omega (arith, a.0, b.0, same) in
    ap₂ ◌∷◌ one (known_by_events q once v w (λ i l. h (suc i) (omega arith)) (λ i l. k (suc i) (omega arith)) (ap tail e))
