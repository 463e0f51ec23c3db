-- "Typed in the unit asked, at a tolerance of 32 or more, the model value is marked right", of bytes: the four model bytes of a sheet line, typed back as the pattern, give a line whose verdict byte is 1. Assumes nothing.
use Rattle.std.specs.Prelude.{if◌then◌else◌}
use mathlib.Core.Path.{◌≡◌, refl, sym, ap, ◌∙◌, subst}
use mathlib.Core.List.{List}
use Prim.Native.Nat.{ℕ, ◌≤◌}
use mathlib.Core.Bool.{Bool, true, false}
use lib.Dec.{T, eqb}
use lib.Ieee.{Float, binary32, of_bits, to_bits, fits}
use lib.Ieee.Bits.{of_bits-to_bits}
use lib.Ieee.Fits.{round-fits}
use Rattle.numeric.specs.Exact.{exact_answer}
use Rattle.numeric.specs.Nearest.{model_value}
use Rattle.marking.specs.Sheet.{unit_of, given_of, unit_asked, Marked}
use Rattle.marking.specs.Typed.{answer_of, typed_refusal, typed_line, room_after, model_read, verdict_read}
use Rattle.marking.proofs.Lines.{marked_line}
use Rattle.marking.proofs.TypedCall.{accepted_is}
use Rattle.marking.proofs.LineReadsBack.{room_reads_back, model_reads_back}
use Rattle.marking.proofs.ModelIsMarkedRight.{model_is_marked_right}

-- an answer in the unit asked has it, and its number
in_unit : (kind : ℕ) (x : Float) → (unit_of (answer_of (unit_asked kind) x) ≡ unit_asked kind) × (given_of (answer_of (unit_asked kind) x) ≡ x)
in_unit kind x = go (eqb kind 1)
  where
    go : (b : Bool) → let u : ℕ = if b then 1 else 2 in (unit_of (answer_of u x) ≡ u) × (given_of (answer_of u x) ≡ x)
    go true = (refl, refl)
    go false = (refl, refl)

-- the sheet line of any answer that was accepted
module _ (kind amount speed tolerance unit pattern : ℕ) (room : List ℕ) (accepted : typed_refusal kind amount speed tolerance unit room ≡ 0) where
  abbrev sheet : List ℕ
  sheet = room_after kind amount speed tolerance unit pattern room

  model_typed : of_bits binary32 (model_read sheet) ≡ model_value (exact_answer kind amount speed)
  model_typed =
      let t = exact_answer kind amount speed in
      let m : (typed_line kind amount speed tolerance unit pattern).model ≡ model_value t =
      ap (λ (z : Marked). z.line.model) (marked_line kind amount speed tolerance (answer_of unit (of_bits binary32 pattern)) (accepted_is kind amount speed tolerance unit room accepted).0) in
      let f = round-fits binary32 false t.top t.bottom in
      ap (of_bits binary32) (model_reads_back kind amount speed tolerance unit pattern room accepted (subst (λ (x : Float). T (fits binary32 x)) (sym m) f) ∙ ap (to_bits binary32) m)
      ∙ of_bits-to_bits binary32 (model_value t) f

  pub model_typed_back : (at-least-32 : ℕ) (second : List ℕ) → 32 ≤ at-least-32 → typed_refusal kind amount speed at-least-32 (unit_asked kind) second ≡ 0
      → verdict_read (room_after kind amount speed at-least-32 (unit_asked kind) (model_read sheet) second) ≡ 1
  model_typed_back at-least-32 second h again =
      let x = of_bits binary32 (model_read sheet) in
      let u = in_unit kind x in
      (room_reads_back kind amount speed at-least-32 (unit_asked kind) (model_read sheet) second again).0
      ∙ model_is_marked_right kind amount speed at-least-32 (answer_of (unit_asked kind) x) (accepted_is kind amount speed at-least-32 (unit_asked kind) second again).0 h u.0 (u.1 ∙ model_typed)
