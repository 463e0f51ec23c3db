-- The records of a question read in turn, a line or two for each, as the code finds them. Assumes nothing.
use Prim.Native.Nat.{ℕ, ◌-◌, ◌≤◌, ◌<◌}
use mathlib.Core.Path.{◌≡◌, refl, ap, ◌∙◌}
use mathlib.Core.Bool.{Bool, true, false}
use mathlib.Core.List.{List}
use native.Mathlib.Omega.{arith}
use lib.ListN.{length, take, drop, get_or, drop_of_length-le}
use lib.Seq.{take_at, drop-cons}
use borrow.Author.Tests.{eqb-true, eqb-false}
use lib.Dec.{eqb}
use Rattle.std.specs.Prelude.{Option, None, Some}
use Rattle.std.specs.Option.{option_eq}
use Rattle.block.specs.declared.event.Event.{Event}
use Rattle.block.specs.declared.reading.Reading.{Reading}
use Rattle.forms.specs.declared.Letters.{Letters}
use Rattle.forms.specs.Form.{nothing, found, Form}
use Rattle.forms.specs.Compose.{◌⊗◌, each_written}
use Rattle.forms.specs.Laws.{Lettered}
use Rattle.forms.specs.Whole.{whole}
use Rattle.forms.specs.Taken.{taken}
use Rattle.forms.proofs.Taken.{There}
use Rattle.forms.proofs.InTurn.{there_long, is_there}
use Rattle.forms.proofs.WholeTaken.{none_whole, more_than_whole, whole_there}
use Rattle.records.specs.Plan.{plan}
use Rattle.records.specs.Situation.{Codes, situation}
use Rattle.records.specs.Lists.{one_event, events, one_reading, readings, answer_length}
use Rattle.records.specs.Question.{Parts, question}
use Rattle.records.specs.Laid.{laid_in}
use Rattle.records.specs.Sizes.{IsExtent, is_accepted}
use Rattle.records.proofs.InBytes.{part_from}
use Rattle.records.proofs.RecordLaws.{answer_length_law}

-- ---- one record, where the code finds it
module _ {A : Type 0} {ms : List Letters} {F : Form A} (K : Lettered ms F) {s : List ℕ} {k : ℕ} where
  pub is_found : (k ≡ taken F s) × (0 < k) × (k ≤ length s) → There F k s
  is_found e = rw e.0 (is_there K s (λ z. absurd (omega (arith, z, e.0, e.1))))

  -- its bytes are what is written of it
  pub front_written : (t : There F k s) → take k s ≡ F.written t.what
  front_written t =
      ap (take k) (K.lawful.one s t.what (drop k s) t.is).1 ∙ take_at (F.written t.what) (drop k s) k (there_long K.lawful s t)

-- what is found reaches to the end
pub exactly : {A : Type 0} {ms : List Letters} {F : Form A} (K : Lettered ms F) (s : List ℕ) (r : Option ℕ) → IsExtent (taken F s) s r → option_eq eqb r (Some (length s)) ≡ is_accepted (whole F s)
exactly K s None e = rw (none_whole K s e)
exactly {A} {ms} {F} K s (Some k) e = by (eqb k (length s)) refl
  where
    by : (v : Bool) → eqb k (length s) ≡ v → v ≡ is_accepted (whole F s)
    by true h = rw (whole_there K s (is_found K e) (omega (arith, eqb-true k (length s) h)))
    by false h = let n = eqb-false k (length s) h in rw (more_than_whole K s (is_found K e) (omega (arith, n, e.2)))

-- ---- the items of a list behind its letters and its count, and the length behind its letters
module _ {s : List ℕ} where
  pub events_behind : (items : List Event) → s ≡ events.written items → (3 ≤ length s) × (take (length s - 3) (drop 3 s) ≡ each_written one_event items)
  unfolding events
  events_behind items e = (rw e (omega arith), part_from 3 s ∙ rw e)

  pub readings_behind : (items : List Reading) → s ≡ readings.written items → (3 ≤ length s) × (take (length s - 3) (drop 3 s) ≡ each_written one_reading items)
  unfolding readings
  readings_behind items e = (rw e (omega arith), part_from 3 s ∙ rw e)

  pub length_behind : {k : ℕ} (t : There answer_length k s) → (3 ≤ length s) × (get_or s 2 0 ≡ t.what)
  unfolding answer_length
  length_behind {k} t =
      let e = (answer_length_law.lawful.one s t.what (drop k s) t.is).1 in
      (rw e (omega arith), ap (λ (u : List ℕ). get_or u 2 0) e)

-- ---- one form after another: u is what the first leaves of s
module _ {A B : Type 0} (F : Form A) (G : Form B) (s : List ℕ) where
  first_lost : F.read s ≡ nothing → (F ⊗ G).read s ≡ nothing
  first_lost e = rw e

  module _ {k : ℕ} (t : There F k s) {u : List ℕ} (h : u ≡ drop k s) where
    later_lost : G.read u ≡ nothing → (F ⊗ G).read s ≡ nothing
    later_lost e = rw (t.is, ← h, e)

    both_found : {b : B} {rest : List ℕ} → G.read u ≡ found b rest → (F ⊗ G).read s ≡ found (t.what, b) rest
    both_found e = rw (t.is, ← h, e)

-- what is left to read from a record on
abbrev from_rd : Form (List Reading × ℕ)
from_rd = readings ⊗ answer_length

abbrev from_ev : Form (List Event × (List Reading × ℕ))
from_ev = events ⊗ from_rd

abbrev from_si : Form (Codes × (List Event × (List Reading × ℕ)))
from_si = situation ⊗ from_ev

-- ---- the whole
pub none_laid : (s : List ℕ) → question.read s ≡ nothing → None ≡ laid_in (whole question s)
unfolding whole
none_laid s e = rw e

module _ (s : List ℕ) where
  pub no_plan : plan.read s ≡ nothing → question.read s ≡ nothing
  unfolding question
  no_plan = first_lost plan from_si s

  module _ {i : ℕ} (lb : There plan i s) {s₁ : List ℕ} (h₁ : s₁ ≡ drop i s) where
    at_si_lost : from_si.read s₁ ≡ nothing → question.read s ≡ nothing
    unfolding question
    at_si_lost = later_lost plan from_si s lb h₁

    pub no_situation : situation.read s₁ ≡ nothing → question.read s ≡ nothing
    no_situation e = at_si_lost (first_lost situation from_ev s₁ e)

    module _ {j : ℕ} (x : There situation j s₁) {s₂ : List ℕ} (h₂ : s₂ ≡ drop j s₁) where
      at_ev_lost : from_ev.read s₂ ≡ nothing → question.read s ≡ nothing
      at_ev_lost e = at_si_lost (later_lost situation from_ev s₁ x h₂ e)

      pub no_events : events.read s₂ ≡ nothing → question.read s ≡ nothing
      no_events e = at_ev_lost (first_lost events from_rd s₂ e)

      module _ {k : ℕ} (es : There events k s₂) {s₃ : List ℕ} (h₃ : s₃ ≡ drop k s₂) where
        at_rd_lost : from_rd.read s₃ ≡ nothing → question.read s ≡ nothing
        at_rd_lost e = at_ev_lost (later_lost events from_rd s₂ es h₃ e)

        pub no_readings : readings.read s₃ ≡ nothing → question.read s ≡ nothing
        no_readings e = at_rd_lost (first_lost readings answer_length s₃ e)

        module _ {l : ℕ} (rs : There readings l s₃) {s₄ : List ℕ} (h₄ : s₄ ≡ drop l s₃) where
          pub no_length : answer_length.read s₄ ≡ nothing → question.read s ≡ nothing
          no_length e = at_rd_lost (later_lost readings answer_length s₃ rs h₄ e)

          module _ {m : ℕ} (n : There answer_length m s₄) where
            abbrev parts : Parts
            parts = (lb.what, (x.what, (es.what, (rs.what, n.what))))

            all_read : question.read s ≡ found parts (drop m s₄)
            unfolding question
            all_read =
                both_found plan from_si s lb h₁
                (both_found situation from_ev s₁ x h₂ (both_found events from_rd s₂ es h₃ (both_found readings answer_length s₃ rs h₄ n.is)))

            pub left_over : m < length s₄ → None ≡ laid_in (whole question s)
            unfolding whole
            left_over h = rw (all_read, drop-cons s₄ m 0 h)

            pub all_laid : length s₄ ≤ m → {a b c d : List ℕ} {e : ℕ} → a ≡ plan.written lb.what → b ≡ situation.written x.what → c ≡ each_written one_event es.what → d ≡ each_written one_reading rs.what → e ≡ n.what
                → Some (record { plan = a; situation = b; events = c; readings = d; length = e }) ≡ laid_in (whole question s)
            unfolding whole
            all_laid h pa pb pc pd pe = rw (all_read, drop_of_length-le s₄ h, pa, pb, pc, pd, pe)
