-- What is in the sets of signals, one section at a time. Assumes nothing.
use Rattle.std.specs.Prelude.{if◌then◌else◌}
use Prim.Native.Nat.{ℕ, zero, suc, ◌+◌, ◌-◌, ◌≤◌, ◌<◌}
use mathlib.Core.Path.{◌≡◌, refl, sym, ap, ap₂, subst, ◌∙◌}
use mathlib.Core.Bool.{Bool, true, false, not}
use native.Mathlib.Omega.{arith}
use native.Mathlib.Decide.{dec_lt, ℕ_discrete}
use lib.Dec.{T, eqb, ltb}
use borrow.Author.Tests.{eq-eqb, ne_eqb, le-leb, lt-leb, lt-ltb}
use Rattle.words.specs.Words.{◌and◌, ◌or◌}
use Rattle.sections.specs.Sections.{none, ◌belongs_to◌, only}
use Rattle.sections.specs.Sets.{both, either, ◌minus◌, one_down, one_up}
use Rattle.sections.proofs.SetLaws.{none_has}
use Rattle.sections.proofs.SetsOfSets.{in_both, in_either, in_minus, in_only, in_given, in_one_down, in_one_up}
use Rattle.block.specs.Line.{is_plan, is_section, in_area, owner, first_section, is_exit, entrance, terminus, after, same_station, across_frontier}
use Rattle.block.specs.Areas.{AreaOf}
use Rattle.block.proofs.PlanLaws.{Sized, sized, Within, within}
use Rattle.rulebook.specs.Situation.{Kept, station, area_direction, held, ◌has_exit_route}
use Rattle.block.specs.declared.line.Plan.{Plan}
use Rattle.block.specs.declared.line.Name.{Name}
use Rattle.block.specs.declared.line.Name.TheVariants.{StationA, StationB}
use Rattle.block.specs.declared.line.Direction.{Direction}
use Rattle.block.specs.declared.line.Direction.TheVariants.{TowardsA, TowardsB}
use Rattle.aspects.specs.Aspects.{runs, is_open}
use Rattle.signals.specs.SignalSets.{Those, OffLine, leaves, arrives, block_lit, exit_lit, runs_somewhere, next_open, is_green, Moved, OnEdge, number}

pub first_small : (p : Plan) (s : Name) → is_plan p ≡ true → first_section p s < 49
first_small p StationA e = omega arith
first_small p StationB e = let h : Sized p = sized p e in omega arith

-- ---- an area, of which a word has a bit for every section
pub area_those : (p : Plan) (s : Name) (m : ℕ) → is_plan p ≡ true → AreaOf p s m → Those p (in_area p s) m
area_those p s m plan is k e =
    let h : Sized p = sized p plan in
    is k ∙ ap₂ (λ (v w : Bool). v and w and in_area p s k) (lt-ltb k 64 (omega (arith, (within p k e).most, h.top))) e

off_there : (v w : Bool) → (v and false and w) ≡ false
off_there true w = refl
off_there false w = refl

pub area_off : (p : Plan) (s : Name) (m : ℕ) → AreaOf p s m → OffLine p m
area_off p s m is k e = is k ∙ ap (λ (v : Bool). ltb k 64 and v and in_area p s k) e ∙ off_there (ltb k 64) (in_area p s k)

-- ---- block signals
near_station : (a b c h : Bool) → (((a and not b) and true or c and false) and not h) ≡ (a and not h and not b)
near_station true true true true = refl
near_station true true true false = refl
near_station true true false true = refl
near_station true true false false = refl
near_station true false true true = refl
near_station true false true false = refl
near_station true false false true = refl
near_station true false false false = refl
near_station false b true h = refl
near_station false b false h = refl

far_station : (a b c h : Bool) → ((c and false or (a and not b) and true) and not h) ≡ (a and not h and not b)
far_station true true true true = refl
far_station true true true false = refl
far_station true true false true = refl
far_station true true false false = refl
far_station true false true true = refl
far_station true false true false = refl
far_station true false false true = refl
far_station true false false false = refl
far_station false b true h = refl
far_station false b false h = refl

-- where trains enter the line they leave, and they arrive at the other end
by_station : (x : Kept) (d : Direction) (s : Name) (h : Bool) → ((leaves (station x (entrance d)) and same_station s (entrance d) or arrives (station x (terminus d)) and same_station s (terminus d)) and not h) ≡ (runs s (area_direction (station x s)) d and not h and not (station x s).bslg)
by_station x TowardsA StationA h = far_station (area_direction x.traffic.own).inward x.traffic.own.bslg (leaves x.traffic.other) h
by_station x TowardsA StationB h = near_station (area_direction x.traffic.other).out x.traffic.other.bslg (arrives x.traffic.own) h
by_station x TowardsB StationA h = near_station (area_direction x.traffic.own).out x.traffic.own.bslg (arrives x.traffic.other) h
by_station x TowardsB StationB h = far_station (area_direction x.traffic.other).inward x.traffic.other.bslg (leaves x.traffic.own) h

pub block_set : (p : Plan) (x : Kept) (d : Direction) (a b : ℕ) → Those p (in_area p (entrance d)) a → Those p (in_area p (terminus d)) b → Those p (block_lit p x d) (either (if leaves (station x (entrance d)) then a else none) (if arrives (station x (terminus d)) then b else none) minus held x d)
block_set p x d a b near far k e =
    in_minus k (either (if leaves (station x (entrance d)) then a else none) (if arrives (station x (terminus d)) then b else none)) (held x d)
    ∙ ap (λ (v : Bool). v and not (k belongs_to held x d))
    (in_either k (if leaves (station x (entrance d)) then a else none) (if arrives (station x (terminus d)) then b else none)
    ∙ ap₂ (λ (v w : Bool). v or w)
    (in_given k (leaves (station x (entrance d))) a ∙ ap (λ (v : Bool). leaves (station x (entrance d)) and v) (near k e))
    (in_given k (arrives (station x (terminus d))) b ∙ ap (λ (v : Bool). arrives (station x (terminus d)) and v) (far k e)))
    ∙ by_station x d (owner p k) (k belongs_to held x d)

-- ---- exit signals
and_turned : (a b : Bool) → (a and b) ≡ (b and a)
and_turned true true = refl
and_turned true false = refl
and_turned false true = refl
and_turned false false = refl

pub exit_set : (p : Plan) (x : Kept) (d : Direction) → is_plan p ≡ true → Those p (exit_lit p x d) (if station x (entrance d) has_exit_route and (area_direction (station x (entrance d))).out then only (first_section p (entrance d)) else none)
exit_set p x d plan k e =
    let v : Bool = station x (entrance d) has_exit_route and (area_direction (station x (entrance d))).out in
    in_given k v (only (first_section p (entrance d)))
    ∙ ap (λ (w : Bool). v and w) (in_only k (first_section p (entrance d)) (first_small p (entrance d) plan))
    ∙ and_turned v (is_exit p d k)

-- ---- both
chosen : (exit runs held bslg routed out occupied : Bool) → (((runs and not held and not bslg) and not exit or exit and (routed and out)) and not occupied) ≡ (if exit then routed and out and not occupied else runs and not occupied and not held and not bslg)
chosen true true true b r o c = refl
chosen true true false true r o c = refl
chosen true true false false r o c = refl
chosen true false h b r o c = refl
chosen false true true b r o true = refl
chosen false true true b r o false = refl
chosen false true false true r o true = refl
chosen false true false true r o false = refl
chosen false true false false r o true = refl
chosen false true false false r o false = refl
chosen false false h b r o c = refl

pub open_set : (p : Plan) (x : Kept) (d : Direction) (a b : ℕ) → is_plan p ≡ true → Those p (block_lit p x d) a → Those p (exit_lit p x d) b → Those p (is_open p x d) (either (a minus only (first_section p (entrance d))) b minus x.traffic.track.occupied)
open_set p x d a b plan blocks exit k e =
    let first : ℕ = only (first_section p (entrance d)) in
    in_minus k (either (a minus first) b) x.traffic.track.occupied
    ∙ ap (λ (v : Bool). v and not (k belongs_to x.traffic.track.occupied))
    (in_either k (a minus first) b
    ∙ ap₂ (λ (v w : Bool). v or w)
    (in_minus k a first ∙ ap₂ (λ (v w : Bool). v and not w) (blocks k e) (in_only k (first_section p (entrance d)) (first_small p (entrance d) plan)))
    (exit k e))
    ∙ chosen (is_exit p d k) (runs (owner p k) (area_direction (station x (owner p k))) d) (k belongs_to held x d) (station x (owner p k)).bslg (station x (entrance d) has_exit_route) (area_direction (station x (entrance d))).out (k belongs_to x.traffic.track.occupied)

-- ---- the next signals
pub moved_B : (m : ℕ) → Moved TowardsB m (one_down m)
moved_B m k l h = in_one_down k m

pub moved_A : (m : ℕ) → Moved TowardsA m (one_up m)
moved_A m zero l h = absurd (omega arith)
moved_A m (suc j) l h = ap (λ (k : ℕ). k belongs_to one_up m) (omega arith) ∙ in_one_up j m (omega arith) ∙ ap (λ (k : ℕ). k belongs_to m) (omega arith)

pub edge_B : (p : Plan) → is_plan p ≡ true → OnEdge p TowardsB p.frontier
edge_B p plan = let h : Sized p = sized p plan in (omega arith, at)
  where
    at : (k : ℕ) → 1 ≤ k → eqb k p.frontier ≡ across_frontier p k (k + 1)
    at k l = go (dec_lt k p.frontier) (dec_lt p.frontier k)
      where
        go : Dec (k < p.frontier) → Dec (p.frontier < k) → eqb k p.frontier ≡ across_frontier p k (k + 1)
        go (yes a) b = rw (ne_eqb k p.frontier (λ e. omega arith), le-leb k p.frontier (omega arith), le-leb (k + 1) p.frontier (omega arith))
        go (no a) (yes b) = rw (ne_eqb k p.frontier (λ e. omega arith), lt-leb k p.frontier (omega arith), lt-leb (k + 1) p.frontier (omega arith))
        go (no a) (no b) = rw (eq-eqb k p.frontier (omega arith), le-leb k p.frontier (omega arith), lt-leb (k + 1) p.frontier (omega arith))

pub edge_A : (p : Plan) → is_plan p ≡ true → OnEdge p TowardsA (p.frontier + 1)
edge_A p plan = let h : Sized p = sized p plan in (omega arith, at)
  where
    at : (k : ℕ) → 1 ≤ k → eqb k (p.frontier + 1) ≡ across_frontier p k (k - 1)
    at k l = go (dec_lt k (p.frontier + 1)) (dec_lt (p.frontier + 1) k)
      where
        go : Dec (k < p.frontier + 1) → Dec (p.frontier + 1 < k) → eqb k (p.frontier + 1) ≡ across_frontier p k (k - 1)
        go (yes a) b = rw (ne_eqb k (p.frontier + 1) (λ e. omega arith), le-leb k p.frontier (omega arith), le-leb (k - 1) p.frontier (omega arith))
        go (no a) (yes b) = rw (ne_eqb k (p.frontier + 1) (λ e. omega arith), lt-leb k p.frontier (omega arith), lt-leb (k - 1) p.frontier (omega arith))
        go (no a) (no b) = rw (eq-eqb k (p.frontier + 1) (omega arith), lt-leb k p.frontier (omega arith), le-leb (k - 1) p.frontier (omega arith))

-- a section that is not the last has one after it
after_section : (p : Plan) (d : Direction) (k : ℕ) → Within p k → (k ≡ first_section p (terminus d) → ⊥) → is_section p (after d k) ≡ true
after_section p TowardsA k w n = rw (le-leb 1 (k - 1) (omega arith), le-leb (k - 1) p.sections (omega arith))
after_section p TowardsB k w n = rw (le-leb 1 (k + 1) (omega arith), le-leb (k + 1) p.sections (omega arith))

at_last : (s unseen entry : Bool) → ((s and not unseen) and not true or entry and true) ≡ entry
at_last true true true = refl
at_last true true false = refl
at_last true false true = refl
at_last true false false = refl
at_last false unseen true = refl
at_last false unseen false = refl

before_last : (s link edge entry : Bool) → ((s and not (not link and edge)) and not false or entry and false) ≡ (s and (link or not edge))
before_last true true edge true = refl
before_last true true edge false = refl
before_last true false true true = refl
before_last true false true false = refl
before_last true false false true = refl
before_last true false false false = refl
before_last false link edge true = refl
before_last false link edge false = refl

module _ (p : Plan) (x : Kept) (d : Direction) (m next edge : ℕ) where
  abbrev pub last : ℕ
  last = first_section p (terminus d)

  abbrev pub ahead : ℕ
  ahead = next minus (if not x.traffic.link then only edge else none)

  abbrev pub entered : ℕ
  entered = if (station x (terminus d)).entry then only last else none

  pub next_set : is_plan p ≡ true → Moved d m next → OnEdge p d edge → Those p (is_open p x d) m → Those p (next_open p x d) (either (ahead minus only last) entered)
  next_set plan moved on known k e =
      in_either k (ahead minus only last) entered
      ∙ ap₂ (λ (v w : Bool). v or w)
      (in_minus k ahead (only last) ∙ ap₂ (λ (v w : Bool). v and not w) seen (in_only k last small))
      (in_given k (station x (terminus d)).entry (only last) ∙ ap (λ (v : Bool). (station x (terminus d)).entry and v) (in_only k last small))
      ∙ go (ℕ_discrete k last)
    where
      small : last < 49
      small = first_small p (terminus d) plan

      seen : (k belongs_to ahead) ≡ ((k belongs_to next) and not (not x.traffic.link and eqb k edge))
      seen =
          in_minus k next (if not x.traffic.link then only edge else none)
          ∙ ap (λ (v : Bool). (k belongs_to next) and not v) (in_given k (not x.traffic.link) (only edge) ∙ ap (λ (v : Bool). not x.traffic.link and v) (in_only k edge on.0))

      go : Dec (k ≡ last) → (((k belongs_to next) and not (not x.traffic.link and eqb k edge)) and not (eqb k last) or (station x (terminus d)).entry and eqb k last) ≡ next_open p x d k
      go (yes same) = rw (eq-eqb k last same) (at_last (k belongs_to next) (not x.traffic.link and eqb k edge) (station x (terminus d)).entry)
      go (no other) =
          let w : Within p k = within p k e in
          let n : Sized p = sized p plan in
          let after-known : (k belongs_to next) ≡ is_open p x d (after d k) = moved k w.least (omega arith) ∙ known (after d k) (after_section p d k w other) in
          rw (ne_eqb k last other)
          (before_last (k belongs_to next) x.traffic.link (eqb k edge) (station x (terminus d)).entry
          ∙ ap₂ (λ (v u : Bool). v and (x.traffic.link or not u)) after-known (on.1 k w.least))

-- ---- what is shown
pub green_set : (p : Plan) (x : Kept) (d : Direction) (m n : ℕ) → Those p (is_open p x d) m → Those p (next_open p x d) n → Those p (is_green p x d) (both m n)
green_set p x d m n a b k e = in_both k m n ∙ ap₂ (λ (v w : Bool). v and w) (a k e) (b k e)

pub green_is_open : (v w : Bool) → number v (v and w) ≡ number v w
green_is_open true w = refl
green_is_open false w = refl

-- ---- where no train runs that way, no signal is open
neither : (a b : Bool) → (a or b) ≡ false → (a ≡ false) × (b ≡ false)
neither true b h = (h, absurd (subst T h tt))
neither false b h = (refl, h)

none_runs : (x : Kept) (d : Direction) → runs_somewhere x d ≡ false → (s : Name) → runs s (area_direction (station x s)) d ≡ false
none_runs x TowardsA h StationA = (neither (area_direction x.traffic.other).out (area_direction x.traffic.own).inward h).1
none_runs x TowardsA h StationB = (neither (area_direction x.traffic.other).out (area_direction x.traffic.own).inward h).0
none_runs x TowardsB h StationA = (neither (area_direction x.traffic.own).out (area_direction x.traffic.other).inward h).0
none_runs x TowardsB h StationB = (neither (area_direction x.traffic.own).out (area_direction x.traffic.other).inward h).1

none_out : (x : Kept) (d : Direction) → runs_somewhere x d ≡ false → (area_direction (station x (entrance d))).out ≡ false
none_out x d h = (neither (area_direction (station x (entrance d))).out (area_direction (station x (terminus d))).inward h).0

closed : (exit routed out runs free held bslg : Bool) → out ≡ false → runs ≡ false → false ≡ (if exit then routed and out and free else runs and free and held and bslg)
closed true true out runs free held bslg e f = rw e
closed true false out runs free held bslg e f = refl
closed false routed out runs free held bslg e f = rw f

pub nothing_open : (p : Plan) (x : Kept) (d : Direction) → runs_somewhere x d ≡ false → Those p (is_open p x d) none × OffLine p none
nothing_open p x d h = (
  λ k e. none_has k ∙ closed (is_exit p d k) (station x (entrance d) has_exit_route) (area_direction (station x (entrance d))).out (runs (owner p k) (area_direction (station x (owner p k))) d) (not (k belongs_to x.traffic.track.occupied)) (not (k belongs_to held x d)) (not (station x (owner p k)).bslg) (none_out x d h) (none_runs x d h (owner p k)),
  λ k e. none_has k,
)

-- ---- no bit off the line
module _ (p : Plan) where
  pub off_minus : (a b : ℕ) → OffLine p a → OffLine p (a minus b)
  off_minus a b h k e = in_minus k a b ∙ ap (λ (v : Bool). v and not (k belongs_to b)) (h k e)

  pub off_either : (a b : ℕ) → OffLine p a → OffLine p b → OffLine p (either a b)
  off_either a b h g k e = in_either k a b ∙ ap₂ (λ (v w : Bool). v or w) (h k e) (g k e)

  and_off : (v : Bool) → (v and false) ≡ false
  and_off true = refl
  and_off false = refl

  pub off_given : (v : Bool) (a : ℕ) → OffLine p a → OffLine p (if v then a else none)
  off_given v a h k e = in_given k v a ∙ ap (λ (w : Bool). v and w) (h k e) ∙ and_off v

  pub off_only : (j : ℕ) → j < 49 → is_section p j ≡ true → OffLine p (only j)
  off_only j small inside k e = in_only k j small ∙ ne_eqb k j (λ (same : k ≡ j). subst T (sym inside ∙ ap (is_section p) (sym same) ∙ e) tt)

pub first_inside : (p : Plan) (s : Name) → is_plan p ≡ true → is_section p (first_section p s) ≡ true
first_inside p StationA e = let h : Sized p = sized p e in rw (le-leb 1 p.sections (omega arith))
first_inside p StationB e = let h : Sized p = sized p e in rw (le-leb 1 p.sections (omega arith), le-leb p.sections p.sections (omega arith))
