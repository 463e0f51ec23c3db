-- What a signal shows is defined along the line; that it and the next one are enough to know it. Assumes nothing.
use Rattle.std.specs.Prelude.{if◌then◌else◌}
use Prim.Native.Nat.{ℕ, zero, suc}
use mathlib.Core.Path.{◌≡◌, refl, sym, ap, ap₂, ◌∙◌}
use mathlib.Core.Bool.{Bool, true, false, not}
use native.Mathlib.Omega.{arith}
use borrow.Author.Tests.{eq-eqb, ne_eqb}
use Rattle.words.specs.Words.{◌and◌, ◌or◌}
use Rattle.sections.specs.Sections.{◌belongs_to◌}
use Rattle.block.specs.Line.{is_section, is_signal, terminus, after, across_frontier, direction_of, section_of}
use Rattle.rulebook.specs.Situation.{Kept, station}
use Rattle.block.specs.declared.line.Plan.{Plan}
use Rattle.block.specs.declared.line.Direction.{Direction}
use Rattle.block.specs.declared.line.Direction.TheVariants.{TowardsA, TowardsB}
use Rattle.aspects.specs.Aspects.{red, yellow, green, code, is_red, signals_after, is_open, entry_red, out_of_sight, shows_with, shows, aspect}
use Rattle.signals.specs.SignalSets.{Those, OffLine, next_open, is_last, is_green, number, shown, shown_at}
use Rattle.signals.specs.declared.lights.Lights.{Lights}
use Rattle.block.proofs.PlanLaws.{Within, within}
use Rattle.signals.proofs.LitLaws.{green_is_open}

-- ---- tests
before_red : (o r : Bool) → is_red (if o then (if r then yellow else green) else red) ≡ not o
before_red true true = refl
before_red true false = refl
before_red false r = refl

by_next : (o r n : Bool) → r ≡ not n → code (if o then (if r then yellow else green) else red) ≡ number o n
by_next true r true e = ap (λ (v : Bool). code (if v then yellow else green)) e
by_next true r false e = ap (λ (v : Bool). code (if v then yellow else green)) e
by_next false r n e = refl

either_fails : (o link across : Bool) → (not o or (not link and across)) ≡ not (o and (link or not across))
either_fails true true across = refl
either_fails true false true = refl
either_fails true false false = refl
either_fails false link across = refl

module _ (p : Plan) (x : Kept) (d : Direction) where
  shown_red : (m k : ℕ) → is_red (shows_with p x d m k) ≡ not (is_open p x d k)
  shown_red zero k = before_red (is_open p x d k) (entry_red p x d)
  shown_red (suc m) k = before_red (is_open p x d k) (is_red (shows_with p x d m (after d k)) or out_of_sight p x d k)

  -- the last one reads the entry signal
  last_shows : (k : ℕ) → is_last p x d k ≡ true → code (shows_with p x d zero k) ≡ number (is_open p x d k) (next_open p x d k)
  last_shows k last = by_next (is_open p x d k) (entry_red p x d) (next_open p x d k) (ap not (sym (ap (λ (v : Bool). if v then (station x (terminus d)).entry else is_open p x d (after d k) and (x.traffic.link or not (across_frontier p k (after d k)))) last)))

  other_shows : (m k : ℕ) → is_last p x d k ≡ false → code (shows_with p x d (suc m) k) ≡ number (is_open p x d k) (next_open p x d k)
  other_shows m k other =
      by_next (is_open p x d k) (is_red (shows_with p x d m (after d k)) or out_of_sight p x d k) (next_open p x d k)
      (ap (λ (v : Bool). v or out_of_sight p x d k) (shown_red m (after d k))
      ∙ either_fails (is_open p x d (after d k)) x.traffic.link (across_frontier p k (after d k))
      ∙ ap not (sym (ap (λ (v : Bool). if v then (station x (terminus d)).entry else is_open p x d (after d k) and (x.traffic.link or not (across_frontier p k (after d k)))) other)))

  by_count : (m k : ℕ) → (m ≡ 0 → is_last p x d k ≡ true) → ((m ≡ 0 → ⊥) → is_last p x d k ≡ false) → code (shows_with p x d m k) ≡ number (is_open p x d k) (next_open p x d k)
  by_count zero k f g = last_shows k (f refl)
  by_count (suc m) k f g = other_shows m k (g (λ e. omega arith))

-- the number of signals that follow tells the last one
last_told : (p : Plan) (x : Kept) (d : Direction) (k : ℕ) → Within p k → (signals_after p d k ≡ 0 → is_last p x d k ≡ true) × ((signals_after p d k ≡ 0 → ⊥) → is_last p x d k ≡ false)
last_told p x TowardsA k w = (λ e. eq-eqb k 1 (omega (arith, w.least)), λ n. ne_eqb k 1 (λ (e : k ≡ 1). n (omega arith)))
last_told p x TowardsB k w = (λ e. eq-eqb k p.sections (omega (arith, w.most)), λ n. ne_eqb k p.sections (λ (e : k ≡ p.sections). n (omega arith)))

pub two_enough : (p : Plan) (x : Kept) (d : Direction) (k : ℕ) → is_section p k ≡ true → code (shows p x d k) ≡ number (is_open p x d k) (next_open p x d k)
unfolding shows
two_enough p x d k e = let l = last_told p x d k (within p k e) in by_count p x d (signals_after p d k) k l.0 l.1

-- ---- what the sets say
pub aspect_told : (p : Plan) (x : Kept) (signal : ℕ) → aspect p x signal ≡ shown_at p x (direction_of signal) (section_of signal)
aspect_told p x signal = go (is_signal p signal) refl
  where
    go : (v : Bool) → is_section p (section_of signal) ≡ v → (if v then code (shows p x (direction_of signal) (section_of signal)) else 0) ≡ (if v then number (is_open p x (direction_of signal) (section_of signal)) (is_green p x (direction_of signal) (section_of signal)) else 0)
    go true e = two_enough p x (direction_of signal) (section_of signal) e ∙ sym (green_is_open (is_open p x (direction_of signal) (section_of signal)) (next_open p x (direction_of signal) (section_of signal)))
    go false e = refl

module _ (p : Plan) (x : Kept) (d : Direction) where
  pub shown_is : (l : Lights) → Those p (is_open p x d) l.open → Those p (is_green p x d) l.green → (k : ℕ) → is_section p k ≡ true → shown l k ≡ code (shows p x d k)
  shown_is l a b k e =
      ap₂ number (a k e) (b k e) ∙ green_is_open (is_open p x d k) (next_open p x d k) ∙ sym (two_enough p x d k e)

  -- a signal that is in the set, or not
  module _ (m : ℕ) (opens : Those p (is_open p x d) m) (off : OffLine p m) (k : ℕ) where
    pub not_in : (k belongs_to m) ≡ false → 0 ≡ shown_at p x d k
    not_in h = go (is_section p k) refl
      where
        go : (v : Bool) → is_section p k ≡ v → 0 ≡ (if v then number (is_open p x d k) (is_green p x d k) else 0)
        go true e = sym (ap (λ (o : Bool). number o (is_green p x d k)) (sym (opens k e) ∙ h))
        go false e = refl

    inside : (k belongs_to m) ≡ true → is_section p k ≡ true
    inside h = go (is_section p k) refl
      where
        go : (v : Bool) → is_section p k ≡ v → v ≡ true
        go true e = refl
        go false e = sym (off k e) ∙ h

    pub is_in : (g : ℕ) → Those p (is_green p x d) g → (k belongs_to m) ≡ true → number true (k belongs_to g) ≡ shown_at p x d k
    is_in g greens h =
        let e = inside h in
        ap₂ number (sym h ∙ opens k e) (greens k e) ∙ sym (ap (λ (v : Bool). if v then number (is_open p x d k) (is_green p x d k) else 0) e)
