-- Opposing signals over one section are never off red together: a signal that is off red is open, an open one has its area's direction, and where each
-- area has one direction it has not both. Of the situation nothing else is asked. Assumes nothing.
use Rattle.std.specs.Prelude.{if◌then◌else◌}
use Prim.Native.Nat.{ℕ, zero, suc, ◌+◌, ◌-◌, ◌<◌}
use mathlib.Core.Bool.{Bool, true, false, not}
use mathlib.Core.Path.{◌≡◌, sym, ap, subst, ◌∙◌}
use native.Mathlib.Omega.{arith}
use borrow.Author.Tests.{le-leb, lt-leb}
use lib.Dec.{T, T_not, not_T, eqb→eq}
use Rattle.words.specs.Words.{◌and◌, ◌or◌}
use Rattle.words.proofs.Tests.{and_at, and_of, holds_is, fails_is, if_case}
use Rattle.sections.specs.Sections.{◌belongs_to◌}
use Rattle.block.specs.Line.{is_plan, is_section, owner, entrance, after, direction_of, section_of, is_signal, is_exit}
use Rattle.block.specs.declared.line.Plan.{Plan}
use Rattle.block.specs.declared.line.Name.{Name}
use Rattle.block.specs.declared.line.Name.TheVariants.{StationA, StationB}
use Rattle.block.specs.declared.line.Direction.{Direction}
use Rattle.block.specs.declared.line.Direction.TheVariants.{TowardsA, TowardsB}
use Rattle.block.specs.declared.codes.Orientation.{Orientation}
use Rattle.block.proofs.PlanLaws.{Sized, sized, Within, within}
use Rattle.rulebook.specs.Situation.{Kept, station, area_direction, held, ◌has_exit_route}
use Rattle.aspects.specs.Aspects.{red, yellow, green, code, is_red, runs, signals_after, section_free, block_open, exit_open, is_open, entry_red, out_of_sight, shows_with, shows}
use Rattle.aspects.specs.Covering.{covering, off_red, is_off_red, clear_both_ways}

-- ---- a signal that is off red is open
shown_open : (o next_red : Bool) → T (off_red (code (if o then (if next_red then yellow else green) else red))) → T o
shown_open true next_red t = tt
shown_open false next_red t = t

module _ (p : Plan) (x : Kept) where
  with_open : (d : Direction) (m k : ℕ) → T (off_red (code (shows_with p x d m k))) → T (is_open p x d k)
  with_open d zero k = shown_open (is_open p x d k) (entry_red p x d)
  with_open d (suc m) k = shown_open (is_open p x d k) (is_red (shows_with p x d m (after d k)) or out_of_sight p x d k)

  pub off_red_open : (signal : ℕ) → T (is_off_red p x signal) → T (is_open p x (direction_of signal) (section_of signal))
  unfolding shows
  off_red_open signal =
      let d = direction_of signal in
      let k = section_of signal in
      if_case (λ (a : ℕ). T (off_red a) → T (is_open p x d k)) (is_signal p signal) (code (shows p x d k)) 0
      (λ t. with_open d (signals_after p d k) k) (λ t u. absurd u)

pub section_short : (p : Plan) → T (is_plan p) → (k : ℕ) → T (is_section p k) → k < 128
section_short p plan k on =
    let n : Sized p = sized p (holds_is (is_plan p) plan) in
    let w : Within p k = within p k (holds_is (is_section p k) on) in
    omega arith

-- the signal that covers section k in a direction is that section's, and of that direction
pub covers : (d : Direction) (k : ℕ) → k < 128 → (direction_of (covering d k) ≡ d) × (section_of (covering d k) ≡ k)
covers TowardsB k h =
    let short = lt-leb 128 k h in
    (ap (λ (v : Bool). if v then TowardsA else TowardsB) short, ap (λ (v : Bool). if v then k - 128 else k) short)
covers TowardsA k h =
    let long = le-leb 128 (128 + k) (omega arith) in
    let back : 128 + k - 128 ≡ k = omega arith in
    (ap (λ (v : Bool). if v then TowardsA else TowardsB) long, ap (λ (v : Bool). if v then 128 + k - 128 else 128 + k) long ∙ back)

pub covering_open : (p : Plan) (x : Kept) (d : Direction) (k : ℕ) → k < 128 → T (is_off_red p x (covering d k)) → T (is_open p x d k)
covering_open p x d k h t =
    let c = covers d k h in
    subst (λ (j : ℕ). T (is_open p x d j)) c.1
    (subst (λ (e : Direction). T (is_open p x e (section_of (covering d k)))) c.0 (off_red_open p x (covering d k) t))

-- ---- an open signal has its area's direction
-- an exit signal's section is in the area of its station
exit_owner : (p : Plan) → T (is_plan p) → (d : Direction) (k : ℕ) → T (is_exit p d k) → owner p k ≡ entrance d
exit_owner p plan TowardsA k t =
    let n : Sized p = sized p (holds_is (is_plan p) plan) in
    let last : k ≡ p.sections = eqb→eq k p.sections t in
    ap (λ (v : Bool). if v then StationA else StationB) (lt-leb k p.frontier (omega arith))
exit_owner p plan TowardsB k t =
    let n : Sized p = sized p (holds_is (is_plan p) plan) in
    let first : k ≡ 1 = eqb→eq k 1 t in
    ap (λ (v : Bool). if v then StationA else StationB) (le-leb k p.frontier (omega arith))

out_runs : (d : Direction) (o : Orientation) → T o.out → T (runs (entrance d) o d)
out_runs TowardsA o t = t
out_runs TowardsB o t = t

module _ (p : Plan) (x : Kept) (d : Direction) (k : ℕ) where
  abbrev runs_at : Name → Bool
  runs_at s = runs s (area_direction (station x s)) d

  block_runs : T (block_open p x d k) → T (runs_at (owner p k))
  block_runs t =
      let r : Bool = runs_at (owner p k) in
      let h₁ = and_at (r and section_free p x d k and not (k belongs_to held x d)) (not (station x (owner p k)).bslg) t in
      let h₂ = and_at (r and section_free p x d k) (not (k belongs_to held x d)) h₁.0 in
      (and_at r (section_free p x d k) h₂.0).0

  pub exit_leaves : T (exit_open p x d k) → T (area_direction (station x (entrance d))).out
  exit_leaves t =
      let s : Name = entrance d in
      let h = and_at (station x s has_exit_route and (area_direction (station x s)).out) (section_free p x d k) t in
      (and_at (station x s has_exit_route) (area_direction (station x s)).out h.0).1

  pub open_runs : T (is_plan p) → T (is_open p x d k) → T (runs_at (owner p k))
  open_runs plan =
      if_case (λ (v : Bool). T v → T (runs_at (owner p k))) (is_exit p d k) (exit_open p x d k) (block_open p x d k)
      (λ exit t. subst (λ (s : Name). T (runs_at s)) (sym (exit_owner p plan d k exit)) (out_runs d (area_direction (station x (entrance d))) (exit_leaves t)))
      (λ block. block_runs)

-- ---- not in both directions
two_ways : (s : Name) (o : Orientation) → T (runs s o TowardsB) → T (runs s o TowardsA) → T (o.out and o.inward)
two_ways StationA o b a = and_of o.out o.inward b a
two_ways StationB o b a = and_of o.out o.inward a b

-- each area has at most one direction
abbrev pub OneWay : Kept → Type 0
OneWay x = (s : Name) → T (not ((area_direction (station x s)).out and (area_direction (station x s)).inward))

pub opposing_red : (p : Plan) → T (is_plan p) → (x : Kept) → OneWay x → (k : ℕ) → T (is_section p k) → clear_both_ways p x k ≡ false
opposing_red p plan x one k on = fails_is (clear_both_ways p x k) (not_T (clear_both_ways p x k) both)
  where
    short : k < 128
    short = section_short p plan k on

    both : T (clear_both_ways p x k) → ⊥
    both t =
        let s : Name = owner p k in
        let o : Orientation = area_direction (station x s) in
        let off = and_at (is_off_red p x (covering TowardsB k)) (is_off_red p x (covering TowardsA k)) t in
        let towards_b = open_runs p x TowardsB k plan (covering_open p x TowardsB k short off.0) in
        let towards_a = open_runs p x TowardsA k plan (covering_open p x TowardsA k short off.1) in
        T_not (o.out and o.inward) (one s) (two_ways s o towards_b towards_a)
