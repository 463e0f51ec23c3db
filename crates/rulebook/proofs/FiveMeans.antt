-- "Refusal 5 means that it is already so, or there is nothing to undo." Assumes nothing.
use Rattle.std.specs.Prelude.{if◌then◌else◌}
use Prim.Native.Nat.{ℕ}
use mathlib.Core.Bool.{Bool, true, false, not, false≢true}
use mathlib.Core.Path.{◌≡◌, refl, sym, ap, ◌∙◌}
use native.Mathlib.Omega.{arith}
use borrow.Author.Tests.{eq-eqb}
use lib.Dec.{T, eqb}
use Rattle.words.specs.Words.{◌and◌}
use Rattle.words.proofs.Tests.{and_at, not_equal, if_case}
use Rattle.rulebook.specs.Situation.{Situation, seen_from}
use Rattle.rulebook.specs.Checks.{Row, ⟶◌, ◌┃◌, ◌when◌, enough_when◌, refusal}
use Rattle.rulebook.specs.Place.{place}
use Rattle.rulebook.specs.Table.{Kind, table, kind_of}
use Rattle.rulebook.specs.Apply.{refuses, refusal_at, spot}
use Rattle.block.specs.declared.event.Spot.{Spot}
use Rattle.rulebook.proofs.InTable.{Known, by_test, by_equation, at_code, its_code}
use Rattle.rulebook.specs.Laws.{so_already, FiveMeans, OthersNeverMatter}

-- ---- 5 is a row's first check or none
abbrev no_five : Row → Bool
no_five (⟶ y) = true
no_five ((n when failed) ┃ rest) = not (eqb n 5) and no_five rest
no_five ((enough_when v) ┃ rest) = no_five rest

abbrev five_first : Row → Bool
five_first (⟶ y) = true
five_first (check ┃ rest) = no_five rest

abbrev has_five : Row → Bool
has_five (⟶ y) = false
has_five ((n when failed) ┃ rest) = eqb n 5
has_five ((enough_when v) ┃ rest) = false

abbrev five_test : Row → Bool
five_test (⟶ y) = false
five_test ((n when failed) ┃ rest) = if eqb n 5 then failed else false
five_test ((enough_when v) ┃ rest) = false

never_five : (r : Row) → T (no_five r) → refusal r ≡ 5 → ⊥
never_five (⟶ y) t = λ e. omega (arith, e)
never_five ((n when failed) ┃ rest) t =
    let h = and_at (not (eqb n 5)) (no_five rest) t in
    if_case (λ (m : ℕ). m ≡ 5 → ⊥) failed n (refusal rest) (λ f. not_equal n 5 h.0) (λ f. never_five rest h.1)
never_five ((enough_when v) ┃ rest) t = if_case (λ (m : ℕ). m ≡ 5 → ⊥) v 0 (refusal rest) (λ f e. omega (arith, e)) (λ f. never_five rest t)

five_fails : (r : Row) → T (five_first r) → refusal r ≡ 5 → five_test r ≡ true
five_fails (⟶ y) t e = absurd (omega (arith, e))
five_fails ((n when true) ┃ rest) t e = rw (eq-eqb n 5 e) refl
five_fails ((n when false) ┃ rest) t e = absurd (never_five rest t e)
five_fails ((enough_when true) ┃ rest) t e = absurd (omega (arith, e))
five_fails ((enough_when false) ┃ rest) t e = absurd (never_five rest t e)

-- ---- of every kind of event, what it tests is what is so already
module _ (at : Spot) (x : Situation) where
  abbrev row_of : Kind → Row
  row_of k = k.row (place at x) x

  Tests : Kind → Type 0
  Tests k = five_test (row_of k) ≡ (if has_five (row_of k) then so_already k.code at x else false)

  is_so : (k : Kind) → Tests k → T (five_first (row_of k)) → refusal (row_of k) ≡ 5 → so_already k.code at x ≡ true
  unfolding Tests
  is_so k e t five = go (has_five (row_of k)) (sym e ∙ five_fails (row_of k) t five)
    where
      go : (v : Bool) → (if v then so_already k.code at x else false) ≡ true → so_already k.code at x ≡ true
      go true h = h
      go false h = absurd (false≢true h)

  five_is_so : (c : ℕ) → Known c → refuses (kind_of c) at x ≡ 5 → so_already c at x ≡ true
  unfolding Tests
  five_is_so c k five =
      let tests = at_code Tests (by_equation (λ k. five_test (row_of k)) (λ k. if has_five (row_of k) then so_already k.code at x else false) table refl) c k in
      let first = at_code (λ k. T (five_first (row_of k))) (by_test (λ k. five_first (row_of k)) table tt) c k in
      sym (ap (λ (d : ℕ). so_already d at x) (its_code c k)) ∙ is_so (kind_of c) tests first five

pub five_means : FiveMeans
unfolding refusal_at
five_means p x e k five = five_is_so (spot p e) (seen_from (spot p e).own x) e.code k five

-- ---- "The other station's orders never matter"
pub others_never_matter : OthersNeverMatter
others_never_matter at x other = (refl, refl)
