-- SI or SJ, as the code finds it. Assumes nothing.
use Prim.Native.Nat.{ℕ}
use mathlib.Core.Path.{◌≡◌, refl, sym, ap, ◌∙◌}
use mathlib.Core.Bool.{Bool, true, false, not}
use mathlib.Core.List.{List, ◌++◌}
use lib.ListN.{drop, get_or}
use lib.Dec.{eqb}
use Rattle.words.specs.Words.{◌and◌, ◌or◌}
use Rattle.forms.specs.Compose.{named}
use Rattle.forms.specs.Choices.{left_out}
use Rattle.forms.specs.Laws.{Lawful}
use Rattle.forms.proofs.Simple.{byte_law, left_out_law}
use Rattle.forms.proofs.Lettered.{letters_law}
use Rattle.forms.proofs.Sizes.{Bytes, Takes, byte_takes, left_out_takes}
use Rattle.forms.proofs.Taken.{There, Spans}
use Rattle.records.specs.Situation.{SI, SJ, Codes, codes_made, code_parts, body, without_watch, with_watch, situation}
use Rattle.records.specs.Sizes.{stands_with}
use Rattle.records.proofs.RecordLaws.{codes_law}
use Rattle.records.proofs.Records.{codes_takes}
use Rattle.records.proofs.Fronts.{fixed_there, fixed_not, first_spans, second_spans, first_was_due, second_missing}
use Rattle.records.proofs.SituationForms.{SI_says}

SI_law : Lawful (named codes_made code_parts (body (left_out 0)))
SI_law = codes_law (left_out_law 0)

SI_takes : Takes 19 (named codes_made code_parts (body (left_out 0)))
SI_takes = codes_takes (left_out_law 0) (left_out_takes 0)

module _ (s : List ℕ) (b : Bytes s) where
  pub SI_found : stands_with SI 19 s ≡ true → Spans situation s 21
  unfolding situation
  SI_found e = first_spans SI SI_law SI_takes with_watch s b e

  -- where SJ stands, its mark and count are the bytes 21 and 22
  module _ (e : stands_with SJ 21 s ≡ true) where
    SJ_there : There with_watch 23 s
    SJ_there = fixed_there SJ (codes_law byte_law) (codes_takes byte_law byte_takes) s b e

    abbrev what : Codes
    what = SJ_there.what

    is : (with_watch.writes what ≡ true) × (s ≡ with_watch.written what ++ drop 23 s)
    is = (letters_law SJ (codes_law byte_law)).lawful.one s what (drop 23 s) SJ_there.is

    SI_due : without_watch.writes what ≡ (eqb (get_or s 21 0) 0 and eqb (get_or s 22 0) 0)
    SI_due = SI_says what is.0 ∙ sym (ap (λ (t : List ℕ). eqb (get_or t 21 0) 0 and eqb (get_or t 22 0) 0) is.1)

  module _ (n : stands_with SI 19 s ≡ false) where
    pub SJ_found : stands_with SJ 21 s ≡ true → eqb (get_or s 21 0) 0 and eqb (get_or s 22 0) 0 ≡ false → Spans situation s 23
    unfolding situation
    SJ_found e z = second_spans SI SI_law SI_takes with_watch s b n (SJ_there e) (SI_due e ∙ z)

    -- "20 for SJ with both zero"
    pub SJ_both_zero : stands_with SJ 21 s ≡ true → eqb (get_or s 21 0) 0 and eqb (get_or s 22 0) 0 ≡ true → Spans situation s 0
    unfolding situation
    SJ_both_zero e z = first_was_due SI SI_law SI_takes with_watch s b n (SJ_there e) (SI_due e ∙ z)

    pub none_found : stands_with SJ 21 s ≡ false → Spans situation s 0
    unfolding situation
    none_found e = second_missing SI SI_law SI_takes with_watch s b n (fixed_not SJ (codes_law byte_law) (codes_takes byte_law byte_takes).sized s e)

-- ---- as the code tests it
pub not_both : (a b : Bool) → not a or not b ≡ true → a and b ≡ false
not_both true true h = sym h
not_both true false h = refl
not_both false b h = refl

pub both_are : (a b : Bool) → not a or not b ≡ false → a and b ≡ true
both_are true true h = refl
both_are true false h = sym h
both_are false b h = sym h
