-- What follows from being a plan, and from being a section of one. Assumes nothing.
use Prim.Native.Nat.{ℕ, ◌≤◌, ◌<◌}
use mathlib.Core.Path.{◌≡◌}
use mathlib.Core.Bool.{true}
use native.Mathlib.Omega.{arith}
use lib.Dec.{T, leb, ltb, leb→le}
use borrow.Author.Tests.{ltb-true}
use Rattle.words.specs.Words.{◌and◌}
use Rattle.words.proofs.Tests.{and_at, is_holds, holds_is}
use Rattle.block.specs.Line.{is_plan, is_section}
use Rattle.block.specs.declared.line.Plan.{Plan}

-- ---- the numbers of a plan
pub record Sized (p : Plan) : Type 0 where
  pub two : 2 ≤ p.sections
  pub top : p.sections ≤ 16
  pub low : 1 ≤ p.frontier
  pub inner : p.frontier < p.sections

pub sized : (p : Plan) → is_plan p ≡ true → Sized p
sized p e =
    let h₁ = and_at (leb 2 p.sections and leb p.sections 16 and leb 1 p.frontier) (ltb p.frontier p.sections) (is_holds (is_plan p) e) in
    let h₂ = and_at (leb 2 p.sections and leb p.sections 16) (leb 1 p.frontier) h₁.0 in
    let h₃ = and_at (leb 2 p.sections) (leb p.sections 16) h₂.0 in
    record {
      two = leb→le 2 p.sections h₃.0;
      top = leb→le p.sections 16 h₃.1;
      low = leb→le 1 p.frontier h₂.1;
      inner = ltb-true p.frontier p.sections (holds_is (ltb p.frontier p.sections) h₁.1);
    }

-- a set has bits for all sections of a plan
pub plan_short : (p : Plan) → T (is_plan p) → p.sections < 49
plan_short p t = omega (arith, (sized p (holds_is (is_plan p) t)).top)

-- ---- a section
pub record Within (p : Plan) (k : ℕ) : Type 0 where
  pub least : 1 ≤ k
  pub most : k ≤ p.sections

pub within : (p : Plan) (k : ℕ) → is_section p k ≡ true → Within p k
within p k e =
    let h = and_at (leb 1 k) (leb k p.sections) (is_holds (is_section p k) e) in
    record { least = leb→le 1 k h.0; most = leb→le k p.sections h.1 }
