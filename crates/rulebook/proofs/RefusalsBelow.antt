-- Every number that an event is refused with is below 20: 20 and above are a question's, a continuation's, a room's. Assumes nothing.
use Rattle.std.specs.Prelude.{if◌then◌else◌}
use Prim.Native.Nat.{ℕ, ◌<◌}
use mathlib.Core.Bool.{Bool, true, not}
use native.Mathlib.Omega.{arith}
use lib.Dec.{T, eqb, ltb, ltb→lt}
use Rattle.words.specs.Words.{◌and◌}
use Rattle.words.proofs.Tests.{and_at, if_case}
use Rattle.block.specs.Line.{is_plan}
use Rattle.rulebook.specs.Situation.{Situation, Kept, seen_from}
use Rattle.rulebook.specs.Sound.{sound}
use Rattle.rulebook.specs.Judged.{judged}
use Rattle.rulebook.specs.Checks.{Row, ⟶◌, ◌┃◌, ◌when◌, enough_when◌, refusal}
use Rattle.rulebook.specs.Place.{Place, place}
use Rattle.rulebook.specs.Table.{table, kind_of}
use Rattle.rulebook.specs.Apply.{refusal_at, known, argument_right, spot, own_refusal, reached, accepted, refused, acted, stepped, applied, Outcome}
use Rattle.block.specs.declared.line.Plan.{Plan}
use Rattle.block.specs.declared.event.Event.{Event}
use Rattle.rulebook.proofs.InTable.{by_test, found}

-- the numbers of a row
abbrev all_below : Row → Bool
all_below (⟶ y) = true
all_below ((n when failed) ┃ rest) = ltb n 20 and all_below rest
all_below ((enough_when v) ┃ rest) = all_below rest

row_below : (r : Row) → T (all_below r) → refusal r < 20
row_below (⟶ y) t = omega arith
row_below ((n when failed) ┃ rest) t =
    let h = and_at (ltb n 20) (all_below rest) t in
    if_case (λ (m : ℕ). m < 20) failed n (refusal rest) (λ f. ltb→lt n 20 h.0) (λ f. row_below rest h.1)
row_below ((enough_when v) ┃ rest) t = if_case (λ (m : ℕ). m < 20) v 0 (refusal rest) (λ f. omega arith) (λ f. row_below rest t)

module _ (here : Place) (x : Situation) where
  every_row : (c : ℕ) → refusal ((kind_of c).row here x) < 20
  every_row c =
      row_below ((kind_of c).row here x)
      (found (λ k. T (all_below (k.row here x))) table (by_test (λ k. all_below (k.row here x)) table tt) tt c)

pub judged_below : (p : Plan) (x : Kept) → judged p x < 20
judged_below p x =
    if_case (λ (n : ℕ). n < 20) (is_plan p) (if sound p x then 0 else 2) 1
    (λ t. if_case (λ (n : ℕ). n < 20) (sound p x) 0 2 (λ s. omega arith) (λ s. omega arith)) (λ t. omega arith)

module _ (p : Plan) (x : Kept) (e : Event) where
  pub own_below : own_refusal p x e < 20
  unfolding refusal_at
  own_below = let seen = seen_from (spot p e).own x in every_row (place (spot p e) seen) seen e.code

  abbrev Below : Outcome → Type 0
  Below o = o.refusal < 20

  pub stepped_below : (stepped p x e).refusal < 20
  unfolding stepped acted
  stepped_below =
      if_case Below (not (known e)) (refused 3 x) _ (λ t. omega arith) λ k.
      if_case Below (not (argument_right p e)) (refused 4 x) _ (λ t. omega arith) λ r.
      if_case Below (eqb (own_refusal p x e) 0) (accepted (reached p x e)) (refused (own_refusal p x e) x)
      (λ t. omega arith) (λ t. own_below)

  pub applied_below : (applied p x e).refusal < 20
  applied_below = if_case Below (eqb (judged p x) 0) (stepped p x e) (refused (judged p x) x) (λ t. stepped_below) (λ t. judged_below p x)
