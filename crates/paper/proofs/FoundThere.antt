-- A question found in its bytes: what lies there, as the code decodes it, is what the bytes are read as. Assumes nothing.
use Prim.Native.Nat.{ℕ, ◌*◌, ◌/◌, ◌≤◌}
use mathlib.Core.Path.{◌≡◌, refl, sym, ap, ◌∙◌}
use mathlib.Core.Bool.{true}
use mathlib.Core.List.{List}
use native.Mathlib.Omega.{arith}
use lib.ListN.{length as size}
use Rattle.std.specs.Prelude.{None}
use Rattle.block.specs.declared.line.Plan.{Plan}
use Rattle.block.specs.declared.event.Event.{Event}
use Rattle.block.specs.declared.reading.Reading.{Reading}
use Rattle.rulebook.specs.Situation.{Kept}
use Rattle.rulebook.specs.Judged.{judged}
use Rattle.situation.specs.declared.Situation.{Situation}
use Rattle.situation.specs.Packed.{unpacked}
use Rattle.forms.specs.Whole.{whole}
use Rattle.records.specs.Situation.{situation_of}
use Rattle.records.specs.Question.{question}
use Rattle.records.specs.Laid.{Bytes, laid_in}
use Rattle.records.specs.InBytes.{plan_at, codes_at, events_in, readings_in}
use Rattle.records.proofs.Lies.{fits, not_laid, Lies}
use Rattle.lists.specs.Refusal.{lists_refusal}
use Rattle.paper.specs.Question.{Question, question_of}
use Rattle.paper.specs.Refusal.{counts_in_range, refusal_of}
use Rattle.paper.specs.Read.{Read, refused, answered, read_of}
use Rattle.paper.specs.Listed.{question_listed}
use Rattle.paper.proofs.Accepted.{counts_fit, not_judged_right, not_listed_right, all_right}
use Rattle.paper.proofs.ReadBytes.{no_form_is_20}

-- where the bytes are no question
pub lost : (s : List ℕ) → None ≡ laid_in (whole question s) → refused 20 ≡ read_of s
lost s e = sym (no_form_is_20 s (not_laid s e))

-- where they are one
same_question : {p o : Plan} {x y : Kept} {es ds : List Event} {rs us : List Reading} {n m : ℕ} → p ≡ o → x ≡ y → es ≡ ds → rs ≡ us → n ≡ m
    → ◌≡◌ {A = Question} (record { plan = p; situation = x; events = es; readings = rs; length = n }) (record { plan = o; situation = y; events = ds; readings = us; length = m })
same_question a b c d e = rw (a, b, c, d, e)

module _ (s : List ℕ) (b : Bytes) (i : Lies s b) where
  pub events_whole : size b.events ≡ 2 * size (events_in b.events)
  events_whole = rw i.events i.events_long

  pub readings_whole : size b.readings ≡ 3 * size (readings_in b.readings)
  readings_whole = rw i.readings i.readings_long

  pub at_most_12 : size (events_in b.events) ≤ 12
  at_most_12 = rw i.events (fits s i.parts i.whole).events.1

  pub counted : size b.events / 2 ≡ size (events_in b.events)
  counted = omega (arith, events_whole)

  module _ (p : Plan) (x : Situation) where
    abbrev asked : Question
    asked = question_listed p x b.events b.readings b.length

    module _ (pe : p ≡ plan_at b.plan) (xe : unpacked x ≡ situation_of (codes_at b.situation)) where
      is_asked : asked ≡ question_of i.parts
      is_asked = same_question (pe ∙ i.plan) (xe ∙ ap situation_of i.situation) i.events i.readings i.length_is

      counts : counts_in_range (size asked.events) (size asked.readings) ≡ true
      counts = rw (i.events, i.readings) (let f = fits s i.parts i.whole in counts_fit _ _ f.events.0 f.events.1 f.readings)

      read_is : read_of s ≡ answered asked
      unfolding read_of
      read_is = rw i.whole (ap answered (sym is_asked))

      pub by_judged : {r : ℕ} → r ≡ judged p (unpacked x) → (r ≡ 0 → ⊥) → refused r ≡ read_of s
      by_judged e z = sym (read_is ∙ not_judged_right asked counts e z)

      module _ (right : 0 ≡ judged p (unpacked x)) {r : ℕ} (re : r ≡ lists_refusal p (events_in b.events) (readings_in b.readings) b.length) where
        pub by_lists : (r ≡ 0 → ⊥) → refused r ≡ read_of s
        by_lists z = sym (read_is ∙ not_listed_right asked counts (sym right) re z)

        module _ (z : r ≡ 0) where
          pub all_found : ◌≡◌ {A = Read} (record { refusal = 0; question = asked }) (read_of s)
          all_found = sym (read_is ∙ all_right asked counts (sym right) re z)

          pub accepted : refusal_of asked ≡ 0
          unfolding refusal_of
          accepted = rw (counts, ← right, ← re, z) refl
