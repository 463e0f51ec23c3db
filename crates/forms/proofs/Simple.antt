-- A byte, no byte, a form for some of its values, and a form under other names: their laws. Assumes nothing.
use Prim.Native.Nat.{ℕ}
use mathlib.Core.Path.{◌≡◌, refl, sym, ap, ◌∙◌}
use mathlib.Core.Bool.{Bool, true}
use mathlib.Core.List.{List, [], ◌∷◌, ◌++◌}
use lib.Dec.{eqb}
use borrow.Author.Tests.{eq-eqb, eqb-true}
use Rattle.words.specs.Words.{◌and◌}
use Rattle.forms.specs.Form.{found, Form}
use Rattle.forms.specs.Compose.{byte, byte_read, only, named}
use Rattle.forms.specs.Choices.{left_out, always}
use Rattle.forms.specs.Laws.{Lawful}
use Rattle.forms.proofs.Reading.{both, both_of, not_nothing, same_value, same_rest, renamed, before, passed}

byte_one : (s : List ℕ) (a : ℕ) (rest : List ℕ) → byte_read s ≡ found a rest → (byte.writes a ≡ true) × (s ≡ byte.written a ++ rest)
byte_one [] a rest e = absurd (not_nothing e)
byte_one (b ∷ s) a rest e = (refl, rw (same_value e, same_rest e))

pub byte_law : Lawful byte
byte_law = record { back = λ a rest h. refl; one = byte_one }

pub left_out_law : (v : ℕ) → Lawful (left_out v)
left_out_law v = record {
  back = λ a rest h. ap (λ (x : ℕ). found x rest) (sym (eqb-true a v h));
  one = λ s a rest e. (eq-eqb a v (sym (same_value e)), same_rest e);
}

module _ {A : Type 0} (test : A → Bool) {F : Form A} (L : Lawful F) where
  only_back : (a : A) (rest : List ℕ) → test a and F.writes a ≡ true → (only test F).read (F.written a ++ rest) ≡ found a rest
  only_back a rest h = let t = both (test a) (F.writes a) h in rw (L.back a rest t.1, t.0)

  only_one : (s : List ℕ) (a : A) (rest : List ℕ) → (only test F).read s ≡ found a rest → (test a and F.writes a ≡ true) × (s ≡ F.written a ++ rest)
  only_one s a rest e =
      let b = before (F.read s) _ e in
      let p = passed (test b.value) b.next_found in
      let v : b.value ≡ a = same_value p.1 in
      let r : b.rest ≡ rest = same_rest p.1 in
      let l = L.one s a rest (renamed b.first v r) in
      (both_of (ap test (sym v) ∙ p.0) l.0, l.1)

  pub only_law : Lawful (only test F)
  only_law = record { back = only_back; one = only_one }

pub always_law : (v : ℕ) → Lawful (always v)
always_law v = only_law (λ b. eqb b v) byte_law

-- other names: every value is made of its parts, and what is made of a value that the form writes has that value as its parts
pub named_law : {A B : Type 0} (make : A → B) (parts : B → A) {F : Form A} → ((a : A) → F.writes a ≡ true → parts (make a) ≡ a) → ((b : B) → make (parts b) ≡ b) → Lawful F → Lawful (named make parts F)
named_law make parts {F = F} p q L = record {
  back = λ b rest h. rw (L.back (parts b) rest h, q b);
  one = λ s b rest e.
      let f = before (F.read s) _ e in
      let w = (L.one s f.value f.rest f.first).0 in
      let a : f.value ≡ parts b = sym (p f.value w) ∙ ap parts (same_value f.next_found) in
      L.one s (parts b) rest (renamed f.first a (same_rest f.next_found));
}
