-- A flag set or cleared touches that flag and no other; so what is said of a situation in words is said of each flag by itself.
use Rattle.std.specs.Prelude.{if◌then◌else◌}
use Prim.Native.Nat.{ℕ, ◌<◌}
use mathlib.Core.Path.{◌≡◌, refl, ap, fun_ext, ◌∙◌}
use mathlib.Core.Bool.{Bool, true, false}
use native.Mathlib.Decide.{ℕ_discrete}
use borrow.Author.Tests.{eq-eqb, ne_eqb}
use lib.Dec.{eqb}
use Rattle.sections.specs.Sections.{◌belongs_to◌}
use Rattle.sections.proofs.SetLaws.{has_with_same, has_with_other, has_without_same, has_without_other}
use Rattle.rulebook.specs.Situation.{Situation}
use Rattle.situation.specs.Packed.{Flags, flags_of, with_flags, unpacked, flagged}
use Rattle.situation.specs.declared.Situation.{Situation as Packed}

abbrev pub with_flag : ℕ → Bool → Flags → Flags
with_flag k v f j = if eqb k j then v else f j

same : (w k : ℕ) (v : Bool) → k < 49 → (k belongs_to flagged w k v) ≡ v
same w k true h = has_with_same w k h
same w k false h = has_without_same w k h

other : (w k j : ℕ) (v : Bool) → k < 49 → (k ≡ j → ⊥) → (j belongs_to flagged w k v) ≡ (j belongs_to w)
other w k j true h d = has_with_other w k j h d
other w k j false h d = has_without_other w k j h d

pub then_flagged : (w k : ℕ) {f : Flags} {r : ℕ} (v : Bool) → k < 49 → flags_of w ≡ f → r ≡ flagged w k v → flags_of r ≡ with_flag k v f
then_flagged w k v h before e = ap flags_of e ∙ fun_ext (λ j. go j (ℕ_discrete k j)) ∙ ap (with_flag k v) before
  where
    go : (j : ℕ) → Dec (k ≡ j) → flags_of (flagged w k v) j ≡ with_flag k v (flags_of w) j
    go j (yes d) = rw (eq-eqb k j d, ← d) (same w k v h)
    go j (no d) = rw (ne_eqb k j d) (other w k j v h d)

module _ (x : Packed) where
  abbrev by : Flags → Situation
  by f = with_flags f x

  abbrev word : ℕ
  word = x.flags

  abbrev pub at_flags : ℕ → Packed
  at_flags r = record { flags = r; occupied = x.occupied; signals = x.signals }

  pub one : (k : ℕ) (v : Bool) → k < 49 → {r : ℕ} → r ≡ flagged word k v → unpacked (at_flags r) ≡ by (with_flag k v (flags_of word))
  one k v h e = ap by (then_flagged word k v h refl e)
