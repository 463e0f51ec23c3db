-- A set has a section of an area exactly where it and the area have one in common. Assumes nothing.
use Prim.Native.Nat.{ℕ, ◌≤◌, ◌<◌, ◌^◌}
use mathlib.Core.Bool.{Bool, true, false, not}
use mathlib.Core.Path.{◌≡◌, refl, sym, ap, ◌∙◌}
use native.Mathlib.Decide.{dec_lt}
use native.Mathlib.Omega.{arith}
use borrow.Author.Tests.{eqb-true, eqb-false, le-leb, lt-ltb}
use lib.Dec.{eqb, ltb}
use Rattle.words.specs.Words.{◌and◌}
use Rattle.words.proofs.Tests.{and_false}
use Rattle.sections.specs.Sections.{◌belongs_to◌}
use Rattle.sections.specs.Sets.{both}
use Rattle.sections.proofs.SetLaws.{none_has, no_sections}
use Rattle.sections.proofs.SetsOfSets.{in_both, word_ends}
use Rattle.block.specs.Line.{is_section, in_area, some_section}
use Rattle.block.specs.Areas.{AreaOf}
use Rattle.block.proofs.PlanLaws.{within}
use Rattle.block.proofs.SomeSection.{none_of, of_none}
use Rattle.block.specs.declared.line.Plan.{Plan}
use Rattle.block.specs.declared.line.Name.{Name}

module _ (p : Plan) (s : Name) (a m : ℕ) (is : AreaOf p s a) (short : m < 2 ^ 64) where
  abbrev there : ℕ → Bool
  there k = in_area p s k and (k belongs_to m)

  in_common : (k : ℕ) → (k belongs_to both a m) ≡ (ltb k 64 and is_section p k and in_area p s k and (k belongs_to m))
  in_common k = in_both k a m ∙ ap (λ (v : Bool). v and (k belongs_to m)) (is k)

  none_there : both a m ≡ 0 → (k : ℕ) → 1 ≤ k → k ≤ p.sections → there k ≡ false
  none_there e k low high = go (dec_lt k 64)
    where
      off : (ltb k 64 and is_section p k and in_area p s k and (k belongs_to m)) ≡ false
      off = sym (in_common k) ∙ ap (λ (n : ℕ). k belongs_to n) e ∙ none_has k

      go : Dec (k < 64) → there k ≡ false
      go (yes w) = rw (lt-ltb k 64 w, le-leb 1 k low, le-leb k p.sections high) at off
      go (no w) = ap (λ (v : Bool). in_area p s k and v) (word_ends k m short (omega arith)) ∙ and_false (in_area p s k)

  nothing_common : some_section p there ≡ false → both a m ≡ 0
  nothing_common e = no_sections (both a m) (λ k. in_common k ∙ go k (ltb k 64) (is_section p k) refl)
    where
      go : (k : ℕ) (w v : Bool) → is_section p k ≡ v → (w and v and in_area p s k and (k belongs_to m)) ≡ false
      go k false v h = refl
      go k true false h = refl
      go k true true h = let l = within p k h in none_of p.sections there e k l.least l.most

  pub some_common : not (eqb (both a m) 0) ≡ some_section p there
  some_common = go (eqb (both a m) 0) refl (some_section p there) refl
    where
      go : (v : Bool) → eqb (both a m) 0 ≡ v → (w : Bool) → some_section p there ≡ w → not v ≡ w
      go true e w f = sym (sym f ∙ of_none p.sections there (none_there (eqb-true (both a m) 0 e)))
      go false e true f = refl
      go false e false f = absurd (eqb-false (both a m) 0 e (nothing_common f))
