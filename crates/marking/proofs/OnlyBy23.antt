-- "23 is the only refusal in numeric marking": given room for a line, marking is refused by 23 or not at all, and by 23 exactly if the question or the unit byte is out of range. "Every refusal returns its number and zeros .. and lent memory keeps its values." Assumes nothing.
use Rattle.std.specs.Prelude.{if◌then◌else◌}
use mathlib.Core.Path.{◌≡◌, refl, ap, ◌∙◌, subst}
use mathlib.Core.Logic.{◌⊎◌, inl, inr, ◌↔◌}
use mathlib.Core.List.{List}
use Prim.Native.Nat.{ℕ, ◌≤◌}
use native.Mathlib.Omega.{arith}
use mathlib.Core.Bool.{Bool, true, false, not, ◌&&◌}
use lib.Dec.{T, leb}
use lib.ListN.{length}
use borrow.Author.Tests.{le-ltb, ne_eqb}
use Rattle.numeric.specs.Exact.{in_range}
use Rattle.marking.specs.Sheet.{refused, marked, Marked}
use Rattle.marking.specs.Typed.{typed_refusal, room_after}
use Rattle.marking.specs.declared.Answer.{Answer}
use Rattle.marking.proofs.Lines.{marked_by}
use Rattle.marking.proofs.TypedCall.{room_by}

-- the refusal n of what is in range or not
abbrev pub OnlyBy23 : Bool → ℕ → Type 0
OnlyBy23 in_range n = ((n ≡ 0) ⊎ (n ≡ 23)) × ((n ≡ 23) ↔ (in_range ≡ false))

by_23 : (b : Bool) (n : ℕ) → n ≡ (if b then 0 else 23) → OnlyBy23 b n
by_23 true n e = (inl e, (λ h. absurd (differ n e h), λ h. absurd (subst T h tt)))
  where
    differ : (n : ℕ) → n ≡ 0 → n ≡ 23 → ⊥
    differ n e h = omega arith
by_23 false n e = (inr e, (λ h. refl, λ h. e))

module _ (kind amount speed tolerance : ℕ) where
  abbrev ranged : Bool
  ranged = in_range kind amount speed tolerance

  pub mark_only_by_23 : (a : Answer) → OnlyBy23 ranged (marked kind amount speed tolerance a).refusal
  mark_only_by_23 a = by_23 ranged (marked kind amount speed tolerance a).refusal (go ranged refl)
    where
      go : (b : Bool) → in_range kind amount speed tolerance ≡ b → (marked kind amount speed tolerance a).refusal ≡ (if b then 0 else 23)
      go true e = ap (λ (m : Marked). m.refusal) (marked_by kind amount speed tolerance a true e)
      go false e = ap (λ (m : Marked). m.refusal) (marked_by kind amount speed tolerance a false e)

  pub refused_has_zeros : (a : Answer) → ranged ≡ false → marked kind amount speed tolerance a ≡ refused 23
  refused_has_zeros a e = marked_by kind amount speed tolerance a false e

  pub typed_only_by_23 : (unit : ℕ) (room : List ℕ) → 13 ≤ length room → OnlyBy23 (ranged && leb unit 2) (typed_refusal kind amount speed tolerance unit room)
  typed_only_by_23 unit room h =
      by_23 (ranged && leb unit 2) (typed_refusal kind amount speed tolerance unit room)
      (ap (λ (short : Bool). if not (ranged && leb unit 2) then 23 else if short then 24 else 0) (le-ltb (length room) 13 h) ∙ turned (ranged && leb unit 2))
    where
      turned : (b : Bool) → ◌≡◌ {A = ℕ} (if not b then 23 else 0) (if b then 0 else 23)
      turned true = refl
      turned false = refl

  pub refused_writes_nothing : (unit pattern : ℕ) (room : List ℕ) → (typed_refusal kind amount speed tolerance unit room ≡ 0 → ⊥) → room_after kind amount speed tolerance unit pattern room ≡ room
  refused_writes_nothing unit pattern room n =
      room_by kind amount speed tolerance unit room pattern false (ne_eqb (typed_refusal kind amount speed tolerance unit room) 0 n)
