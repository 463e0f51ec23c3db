-- Aspects written one after the other into a room: the room holds those written so far, then what it held. Assumes nothing.
use Rattle.std.specs.Prelude.{if◌then◌else◌}
use Prim.Native.Nat.{ℕ, zero, suc, ◌+◌, ◌-◌, ◌/◌, ◌%◌, ◌^◌, ◌≤◌, ◌<◌}
use mathlib.Core.Path.{◌≡◌, refl, sym, ap, ap₂, ◌∙◌}
use mathlib.Core.Bool.{Bool, true}
use mathlib.Core.List.{List, [], ◌∷◌, ◌++◌, append_assoc, append-nil}
use native.Mathlib.Numerals.{add-one}
use native.Mathlib.Omega.{arith}
use native.Mathlib.Nat.{div-one}
use lib.Dec.{eqb}
use lib.Pow.{shr-shr}
use lib.ListN.{length, take, drop, set, get_or, length-append, length-drop, drop_of_length-le}
use lib.Seq.{drop-cons, set_at, take_at, drop_at, drop-drop}
use borrow.Author.Tests.{lt-ltb, le-ltb, le-leb, lt-leb}
use Rattle.sections.specs.Sections.{◌belongs_to◌}
use Rattle.sections.specs.Sets.{one_down}
use Rattle.block.specs.Line.{is_plan, is_section}
use Rattle.block.specs.declared.line.Plan.{Plan}
use Rattle.block.specs.declared.line.Direction.{Direction}
use Rattle.block.specs.declared.line.Direction.TheVariants.{TowardsA, TowardsB}
use Rattle.rulebook.specs.Situation.{Kept}
use Rattle.records.proofs.InBytes.{part_from}
use Rattle.aspects.specs.Aspects.{code, shows, is_open, aspect}
use Rattle.signals.specs.SignalSets.{Those, is_green, shown}
use Rattle.signals.specs.declared.lights.Lights.{Lights}
use Rattle.block.proofs.PlanLaws.{Sized, sized}
use Rattle.signals.proofs.TwoSignals.{shown_is}
use Rattle.folvkin.specs.ShownInTurn.{first_shown}
use Rattle.folvkin.specs.Block.{signal_at, first_aspects}

-- ---- one direction
module _ (l : Lights) where
  pub shown_length : (i : ℕ) → length (first_shown l i) ≡ i
  unfolding first_shown
  shown_length zero = refl
  shown_length (suc i) =
      let h : length (first_shown l i) ≡ i = shown_length i in
      length-append (first_shown l i) (shown l (i + 1) ∷ []) ∙ omega arith

  -- the room after i aspects
  abbrev pub written : List ℕ → ℕ → List ℕ
  written room i = first_shown l i ++ drop i room

  pub none_written : (room : List ℕ) → room ≡ written room 0
  unfolding first_shown
  none_written room = refl

  pub one_written : (room : List ℕ) (i : ℕ) → i < length room → set (written room i) i (shown l (i + 1)) ≡ written room (i + 1)
  unfolding first_shown
  one_written room i h =
      let v : ℕ = shown l (i + 1) in
      let a : List ℕ = first_shown l i in
      ap (λ m. set (a ++ m) i v) (drop-cons room i 0 h)
      ∙ set_at a (get_or room i 0) (drop (suc i) room) v i (shown_length i)
      ∙ sym (append_assoc a (v ∷ []) (drop (suc i) room))
      ∙ ap (written room) (sym (add-one i))

-- ---- sets that move down
abbrev pub lights : ℕ → ℕ → Lights
lights a b = record { «open» = a; green = b }

pub moved : (m i : ℕ) {n : ℕ} → n ≡ m / 2 ^ i → one_down n ≡ m / 2 ^ (i + 1)
moved m i e = ap (λ (a : ℕ). a / 2 ^ 1) e ∙ shr-shr m i 1

at_bottom : (m j : ℕ) → (0 belongs_to (m / 2 ^ j)) ≡ (j belongs_to m)
at_bottom m j =
    let same : j + 0 ≡ j = omega arith in
    ap (λ (a : ℕ). eqb (a % 2) 1) (shr-shr m j 0 ∙ ap (λ (i : ℕ). m / 2 ^ i) same)

pub bottom_shown : (l : Lights) (j : ℕ) {a b : ℕ} → a ≡ l.open / 2 ^ j → b ≡ l.green / 2 ^ j → shown (lights a b) 0 ≡ shown l j
bottom_shown l j e f =
    ap₂ {C = ℕ} (λ (v w : Bool). if v then (if w then 2 else 1) else 0)
    (ap (λ (m : ℕ). 0 belongs_to m) e ∙ at_bottom l.open j) (ap (λ (m : ℕ). 0 belongs_to m) f ∙ at_bottom l.green j)

pub not_moved : (m : ℕ) → m ≡ m / 2 ^ 0
not_moved m = sym (div-one m)

-- ---- both directions, one after the other
module _ (p : Plan) (x : Kept) (plan : is_plan p ≡ true) where
  abbrev pub Shows : Direction → Lights → Type 0
  Shows d l = Those p (is_open p x d) l.open × Those p (is_green p x d) l.green

  -- the signal over section i + 1 towards B, and towards A
  to_B : (b : Lights) → Shows TowardsB b → (i : ℕ) → i < p.sections → shown b (i + 1) ≡ aspect p x (signal_at p.sections i)
  to_B b s i h =
      let n : Sized p = sized p plan in
      let here : is_section p (i + 1) ≡ true = rw (le-leb 1 (i + 1) (omega arith), le-leb (i + 1) p.sections (omega arith)) in
      let name : i + 1 ≡ 1 + i = omega arith in
      shown_is p x TowardsB b s.0 s.1 (i + 1) here
      ∙ sym (ap (λ (v : Bool). if v then code (shows p x TowardsB (i + 1)) else 0) here)
      ∙ rw (lt-ltb i p.sections h, lt-leb 128 (1 + i) (omega arith)) (ap ((λ (k : ℕ). if is_section p k then code (shows p x TowardsB k) else 0)) name)

  to_A : (a : Lights) → Shows TowardsA a → (i : ℕ) → i < p.sections → shown a (i + 1) ≡ aspect p x (signal_at p.sections (p.sections + i))
  to_A a s i h =
      let n : Sized p = sized p plan in
      let here : is_section p (i + 1) ≡ true = rw (le-leb 1 (i + 1) (omega arith), le-leb (i + 1) p.sections (omega arith)) in
      let name : i + 1 ≡ 129 + (p.sections + i - p.sections) - 128 = omega arith in
      shown_is p x TowardsA a s.0 s.1 (i + 1) here
      ∙ sym (ap (λ (v : Bool). if v then code (shows p x TowardsA (i + 1)) else 0) here)
      ∙ rw (le-ltb (p.sections + i) p.sections (omega arith), le-leb 128 (129 + (p.sections + i - p.sections)) (omega arith)) (ap ((λ (k : ℕ). if is_section p k then code (shows p x TowardsA k) else 0)) name)

  first_half : (b : Lights) → Shows TowardsB b → (i : ℕ) → i ≤ p.sections → first_shown b i ≡ first_aspects p x i
  unfolding first_shown first_aspects
  first_half b s zero h = refl
  first_half b s (suc i) h = ap₂ (λ (l : List ℕ) (v : ℕ). l ++ (v ∷ [])) (first_half b s i (omega arith)) (to_B b s i (omega arith))

  second_half : (a : Lights) → Shows TowardsA a → (i : ℕ) → i ≤ p.sections → first_aspects p x p.sections ++ first_shown a i ≡ first_aspects p x (p.sections + i)
  unfolding first_shown first_aspects
  second_half a s zero h =
      let same : p.sections ≡ p.sections + 0 = omega arith in
      append-nil (first_aspects p x p.sections) ∙ ap (first_aspects p x) same
  second_half a s (suc i) h =
      let same : suc (p.sections + i) ≡ p.sections + suc i = omega arith in
      sym (append_assoc (first_aspects p x p.sections) (first_shown a i) (shown a (i + 1) ∷ []))
      ∙ ap₂ (λ (l : List ℕ) (v : ℕ). l ++ (v ∷ [])) (second_half a s i (omega arith)) (to_A a s i (omega arith))
      ∙ ap (first_aspects p x) same

  pub all_shown : (b a : Lights) → Shows TowardsB b → Shows TowardsA a → first_shown b p.sections ++ first_shown a p.sections ≡ first_aspects p x (p.sections + p.sections)
  all_shown b a s t =
      let n : ℕ = p.sections in
      ap (λ (l : List ℕ). l ++ first_shown a n) (first_half b s n (omega arith)) ∙ second_half a t n (omega arith)

pub all_long : (p : Plan) (x : Kept) (i : ℕ) → length (first_aspects p x i) ≡ i
unfolding first_aspects
all_long p x zero = refl
all_long p x (suc i) = let h = all_long p x i in length-append (first_aspects p x i) (aspect p x (signal_at p.sections i) ∷ []) ∙ omega (arith, h)

-- aspects are written, then others into the part after them
pub onto : (b a : Lights) (n : ℕ) (room first part : List ℕ) → n + n ≤ length room → first ≡ written b room n → part ≡ written a (take (length first - n) (drop n first)) n
    → take n first ++ (part ++ drop (length first - n) (drop n first)) ≡ (first_shown b n ++ first_shown a n) ++ drop (n + n) room
onto b a n room first part h e f =
    let back : drop n first ≡ drop n room = rw (e, drop_at (first_shown b n) (drop n room) n (shown_length b n)) in
    let front : take n first ≡ first_shown b n = rw (e, take_at (first_shown b n) (drop n room) n (shown_length b n)) in
    let none : drop (length first - n) (drop n first) ≡ [] = drop_of_length-le (drop n first) {i = length first - n} (omega (arith, length-drop n first)) in
    rw (f, none, part_from, back, front, append-nil, drop-drop, append_assoc)
