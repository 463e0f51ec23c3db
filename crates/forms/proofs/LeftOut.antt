-- A record that is left out exactly when all of its body is zero. Assumes nothing.
use Rattle.std.specs.Prelude.{if◌then◌else◌}
use Prim.Native.Nat.{ℕ}
use mathlib.Core.Path.{◌≡◌, refl, ap}
use mathlib.Core.Bool.{Bool, true, false, not}
use mathlib.Core.Logic.{◌⊎◌, inl, inr}
use mathlib.Core.List.{List, [], ◌∷◌, ◌++◌}
use borrow.Author.Tests.{not-true}
use Rattle.words.specs.Words.{◌or◌}
use Rattle.forms.specs.Form.{Found, nothing, found, Form}
use Rattle.forms.specs.declared.Letters.{Letters}
use Rattle.forms.specs.Compose.{stands, letters}
use Rattle.forms.specs.Choices.{all_zero, there, there_read, unless_zero}
use Rattle.forms.specs.Laws.{Lawful, Lettered, Optional, Alone}
use Rattle.forms.proofs.Reading.{both, both_of, same_value, same_rest, renamed}
use Rattle.forms.proofs.Simple.{only_law}
use Rattle.forms.proofs.Lettered.{letters_law}
use Rattle.forms.proofs.Choice.{reads_nothing}

module _ {A : Type 0} (none : A) (m : Letters) {F : Form A} (L : Lawful F) (Z : Alone none F) where
  test : A → Bool
  test a = not (all_zero (F.written a))

  there_law : Lettered (m ∷ []) (there m F)
  unfolding test
  there_law =
      let K : Lawful (there m F) = only_law test (letters_law m L).lawful in
      record {
        lawful = K;
        lettered = λ s a rest e.
            let w = K.one s a rest e in
            (letters_law m L).lettered s a rest (rw w.1 ((letters_law m L).lawful.back a rest (both (test a) (F.writes a) w.0).1));
      }

  or_false : (v : Bool) → v or false ≡ true → v ≡ true
  or_false true h = refl
  or_false false h = h

  left_out_back : (a : A) (rest : List ℕ) (v : Bool) → all_zero (F.written a) ≡ v → F.writes a ≡ true → stands m rest ≡ false
      → there_read ((there m F).read ((if v then [] else (letters m F).written a) ++ rest)) none ((if v then [] else (letters m F).written a) ++ rest) ≡ found a rest
  left_out_back a rest true e w far = rw (reads_nothing there_law rest (rw far), Z.only_none a w e)
  left_out_back a rest false e w far = rw (there_law.lawful.back a rest (both_of (ap not e) w))

  left_out_one : (s : List ℕ) (a : A) (rest : List ℕ) (x : Found A) → (there m F).read s ≡ x → there_read x none s ≡ found a rest
      → (F.writes a ≡ true) × (s ≡ (unless_zero none m F).written a ++ rest) × ((stands m s ≡ true) ⊎ (s ≡ rest))
  left_out_one s a rest nothing e h =
      let v : none ≡ a = same_value h in
      (rw (← v) Z.none_writes, rw (← v, Z.none_zero, same_rest h), inr (same_rest h))
  left_out_one s a rest (found b r) e h =
      let w = there_law.lawful.one s a rest (renamed e (same_value h) (same_rest h)) in
      let t = both (not (all_zero (F.written a))) (F.writes a) w.0 in
      (t.1, rw (not-true (all_zero (F.written a)) t.0) w.1, inl (or_false (stands m s) (there_law.lettered s b r e)))

  pub unless_zero_law : Optional m (unless_zero none m F)
  unless_zero_law = record {
    back = λ a rest w far. left_out_back a rest (all_zero (F.written a)) refl w far;
    one = λ s a rest e. let p = left_out_one s a rest ((there m F).read s) refl e in (p.0, p.1);
    lettered = λ s a rest e. (left_out_one s a rest ((there m F).read s) refl e).2;
  }
