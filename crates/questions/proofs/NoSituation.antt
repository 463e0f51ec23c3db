-- "A set bit that names no station, no section or an exit signal gives 2", and so does a code out of range, whatever the lists of the question
-- hold. Assumes nothing.
use Prim.Native.Nat.{ℕ, suc, zero, ◌/◌, ◌%◌, ◌-◌, ◌^◌, ◌≤◌, ◌<◌}
use mathlib.Core.Path.{◌≡◌, refl, ◌∙◌}
use mathlib.Core.Bool.{Bool, true, false}
use mathlib.Core.List.{List}
use native.Mathlib.Omega.{arith}
use borrow.Author.Tests.{ltb-true}
use lib.Dec.{T, eqb, leb, ltb}
use Rattle.words.specs.Words.{◌and◌}
use Rattle.sections.specs.Sections.{◌belongs_to◌}
use Rattle.words.proofs.Tests.{and_at, holds_is, is_holds}
use Rattle.block.specs.Line.{is_plan}
use Rattle.rulebook.specs.Sound.{sound}
use Rattle.rulebook.specs.Judged.{judged}
use Rattle.block.specs.declared.line.Plan.{Plan}
use Rattle.rulebook.specs.Situation.{Kept}
use Rattle.forms.specs.Whole.{accepted, whole}
use Rattle.forms.proofs.Reading.{fails}
use Rattle.records.specs.Situation.{Codes, in_range, said, situation_of, sections_of}
use Rattle.records.specs.Question.{Parts, question}
use Rattle.records.proofs.Lies.{fits}
use Rattle.records.proofs.NoSituation as NoSituation
use Rattle.paper.specs.Question.{question_of}
use Rattle.paper.specs.Read.{refused, read_of}
use Rattle.paper.proofs.Accepted.{counts_fit, not_judged_right}
use Rattle.paper.proofs.ReadBytes.{form_is_answered}

infix 40 ◌names◌
-- "bit k-1 for section k"
abbrev pub ◌names◌ : ℕ → ℕ → Bool
field names k = eqb (field / 2 ^ (k - 1) % 2) 1

named_belongs : (field k : ℕ) → 1 ≤ k → T (field names k) → T (k belongs_to sections_of field)
named_belongs field zero l h = absurd (omega arith)
named_belongs field (suc j) l h = let e : suc j - 1 ≡ j = omega arith in rw (NoSituation.bit_names_section field j, ← e) h

some_sections : (p : Plan) → T (is_plan p) → 1 ≤ p.sections
some_sections p h =
    let a = and_at (leb 2 p.sections and leb p.sections 16 and leb 1 p.frontier) (ltb p.frontier p.sections) h in
    omega (arith, ltb-true p.frontier p.sections (holds_is _ a.1))

is_said : (c : Codes) → in_range c ≡ true → situation_of c ≡ said c
unfolding situation_of
is_said c e = rw e

judged_2 : (p : Plan) (x : Kept) → T (is_plan p) → sound p x ≡ false → 2 ≡ judged p x
judged_2 p x h e = rw (holds_is (is_plan p) h, e)

module _ (bytes : List ℕ) (v : Parts) (form : whole question bytes ≡ accepted v) (plan : T (is_plan v.0)) where
  abbrev p : Plan
  p = v.0

  abbrev c : Codes
  c = v.1.0

  not_sound_is_2 : sound p (situation_of c) ≡ false → read_of bytes ≡ refused 2
  not_sound_is_2 e =
      let f = fits bytes v form in
      form_is_answered bytes v form
      ∙ not_judged_right (question_of v) (counts_fit _ _ f.events.0 f.events.1 f.readings) (judged_2 p (situation_of c) plan e) (λ z. omega arith)

  -- a code out of range, or a bit that names no station
  pub code_out_of_range_is_2 : in_range c ≡ false → read_of bytes ≡ refused 2
  code_out_of_range_is_2 h = not_sound_is_2 (NoSituation.code_out_of_range p c h)

  said_not_sound_is_2 : (T (sound p (said c)) → ⊥) → read_of bytes ≡ refused 2
  said_not_sound_is_2 h = by (in_range c) refl
    where
      by : (v : Bool) → in_range c ≡ v → read_of bytes ≡ refused 2
      by false e = code_out_of_range_is_2 e
      by true e = not_sound_is_2 (rw (is_said c e) (fails (sound p (said c)) (λ y. h (is_holds _ y))))

  pub occupied_no_section_is_2 : (k : ℕ) → p.sections < k → T (c.occupied names k) → read_of bytes ≡ refused 2
  unfolding said
  occupied_no_section_is_2 k l t = said_not_sound_is_2 (NoSituation.occupied_no_section p (said c) k l (named_belongs c.occupied k (omega arith) t))

  pub held_towards_B_no_section_is_2 : (k : ℕ) → p.sections < k → T (c.heldb names k) → read_of bytes ≡ refused 2
  unfolding said
  held_towards_B_no_section_is_2 k l t = said_not_sound_is_2 (NoSituation.held_towards_B_no_section p (said c) k l (named_belongs c.heldb k (omega arith) t))

  pub held_towards_A_no_section_is_2 : (k : ℕ) → p.sections < k → T (c.helda names k) → read_of bytes ≡ refused 2
  unfolding said
  held_towards_A_no_section_is_2 k l t = said_not_sound_is_2 (NoSituation.held_towards_A_no_section p (said c) k l (named_belongs c.helda k (omega arith) t))

  pub held_exit_signal_A_is_2 : T (c.heldb names 1) → read_of bytes ≡ refused 2
  unfolding said
  held_exit_signal_A_is_2 t = said_not_sound_is_2 (NoSituation.held_exit_signal_A p (said c) (named_belongs c.heldb 1 (omega arith) t))

  pub held_exit_signal_B_is_2 : T (c.helda names p.sections) → read_of bytes ≡ refused 2
  unfolding said
  held_exit_signal_B_is_2 t = said_not_sound_is_2 (NoSituation.held_exit_signal_B p (said c) (named_belongs c.helda p.sections (some_sections p plan) t))
