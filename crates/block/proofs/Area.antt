-- A station's area as a set of sections: A's ends at the frontier, B's are the others. Assumes nothing.
use Rattle.std.specs.Prelude.{if◌then◌else◌}
use mathlib.Core.Bool.{Bool, true, false, not}
use mathlib.Core.Path.{◌≡◌, refl, ap₂, ◌∙◌}
use Prim.Native.Nat.{ℕ}
use lib.Dec.{leb, ltb}
use Rattle.words.specs.Words.{◌and◌}
use Rattle.sections.specs.Sets.{both, ◌minus◌, up_to}
use Rattle.sections.proofs.SetsOfSets.{in_both, in_minus, in_sections_to}
use Rattle.block.specs.Line.{same_station}
use Rattle.block.specs.Areas.{AreaOf}
use Rattle.block.specs.declared.line.Plan.{Plan}
use Rattle.block.specs.declared.line.Name.TheVariants.{StationA, StationB}

-- of a section: a word has a bit for it, it is 1 or more, on the line, not past the frontier
its_A : (word least line a : Bool) → ((word and (least and line)) and (word and (least and a))) ≡ (word and (least and line) and same_station (if a then StationA else StationB) StationA)
its_A false least line a = refl
its_A true false line a = refl
its_A true true false a = refl
its_A true true true true = refl
its_A true true true false = refl

its_B : (word least line a : Bool) → ((word and (least and line)) and not (word and (least and a))) ≡ (word and (least and line) and same_station (if a then StationA else StationB) StationB)
its_B false least line a = refl
its_B true false line a = refl
its_B true true false a = refl
its_B true true true true = refl
its_B true true true false = refl

module _ (p : Plan) where
  abbrev to : ℕ → ℕ
  to n = up_to (if ltb n 63 then n else 63)

  pub area_A : AreaOf p StationA (both (to p.sections) (to p.frontier))
  area_A k =
      in_both k (to p.sections) (to p.frontier)
      ∙ ap₂ ◌and◌ (in_sections_to k p.sections) (in_sections_to k p.frontier)
      ∙ its_A (ltb k 64) (leb 1 k) (leb k p.sections) (leb k p.frontier)

  pub area_B : AreaOf p StationB (to p.sections minus to p.frontier)
  area_B k =
      in_minus k (to p.sections) (to p.frontier)
      ∙ ap₂ (λ (a b : Bool). a and not b) (in_sections_to k p.sections) (in_sections_to k p.frontier)
      ∙ its_B (ltb k 64) (leb 1 k) (leb k p.sections) (leb k p.frontier)
