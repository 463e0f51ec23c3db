-- One form after the other is lawful where both are. Assumes nothing.
use Prim.Native.Nat.{ℕ}
use mathlib.Core.Path.{◌≡◌, refl, sym, ap, ◌∙◌}
use mathlib.Core.Bool.{true}
use mathlib.Core.Logic.{◌⊎◌, inl, inr}
use mathlib.Core.List.{List, [], ◌∷◌, ◌++◌, append_assoc}
use Rattle.words.specs.Words.{◌and◌}
use Rattle.forms.specs.Form.{found, Form}
use Rattle.forms.specs.declared.Letters.{Letters}
use Rattle.forms.specs.Compose.{stands, ◌▸◌, ◌⊗◌}
use Rattle.forms.specs.Laws.{Lawful, Lettered, Optional, begins, apart}
use Rattle.forms.proofs.Reading.{both, both_of, same_value, same_rest, renamed, renamed_on, before}
use Rattle.forms.proofs.Lettered.{apart_letters, or_left, or_right}

infixr 20 ◌then◌
module _ {A B : Type 0} (F : Form A) (G : A → Form B) where
  -- what the first gave, and then the second
  record Parts (s : List ℕ) (v : A × B) (more : List ℕ) : Type 0 where
    rest : List ℕ
    first : F.read s ≡ found v.0 rest
    second : (G v.0).read rest ≡ found v.1 more

  parts : (s : List ℕ) (v : A × B) (more : List ℕ) → (F ▸ G).read s ≡ found v more → Parts s v more
  parts s v more e =
      let f = before (F.read s) _ e in
      let g = before ((G f.value).read f.rest) _ f.next_found in
      let a : f.value ≡ v.0 = ap (λ (p : A × B). p.0) (same_value g.next_found) in
      let b : g.value ≡ v.1 = ap (λ (p : A × B). p.1) (same_value g.next_found) in
      let m : g.rest ≡ more = same_rest g.next_found in
      record { rest = f.rest; first = renamed f.first a refl; second = renamed_on (λ (x : A) (r : List ℕ). (G x).read r) f.rest a g.first b m }

  sequence_one : ((s : List ℕ) (a : A) (rest : List ℕ) → F.read s ≡ found a rest → (F.writes a ≡ true) × (s ≡ F.written a ++ rest))
      → ((a : A) → Lawful (G a)) → (s : List ℕ) (v : A × B) (more : List ℕ) → (F ▸ G).read s ≡ found v more → ((F ▸ G).writes v ≡ true) × (s ≡ (F ▸ G).written v ++ more)
  sequence_one one L s v more e =
      let p = parts s v more e in
      let a = one s v.0 p.rest p.first in
      let b = (L v.0).one p.rest v.1 more p.second in
      (both_of a.0 b.0, a.1 ∙ ap (λ (r : List ℕ). F.written v.0 ++ r) b.1 ∙ sym (append_assoc (F.written v.0) ((G v.0).written v.1) more))

module _ {A B : Type 0} {F : Form A} {G : A → Form B} where
  pub sequence_law : Lawful F → ((a : A) → Lawful (G a)) → Lawful (F ▸ G)
  sequence_law K L = record {
    back = λ v more h.
        let w = both (F.writes v.0) ((G v.0).writes v.1) h in
        rw (append_assoc (F.written v.0) ((G v.0).written v.1) more, K.back v.0 ((G v.0).written v.1 ++ more) w.0, (L v.0).back v.1 more w.1);
    one = sequence_one F G K.one L;
  }

  -- the letters are the first's
  pub ◌then◌ : {ms ns : List Letters} → Lettered ms F → ((a : A) → Lettered ns (G a)) → Lettered ms (F ▸ G)
  ◌then◌ K L = record {
    lawful = sequence_law K.lawful (λ a. (L a).lawful);
    lettered = λ s v more e. let p = parts F G s v more e in K.lettered s v.0 p.rest p.first;
  }

-- a form that may be left out, before one that does not begin with its letters
module _ {A B : Type 0} {m : Letters} {ns : List Letters} {F : Form A} {G : Form B} (K : Optional m F) (L : Lettered ns G) (far : apart (m ∷ []) ns ≡ true) where
  optional_back : (v : A × B) (more : List ℕ) → F.writes v.0 and G.writes v.1 ≡ true → (F ⊗ G).read ((F.written v.0 ++ G.written v.1) ++ more) ≡ found v more
  optional_back v more h =
      let w = both (F.writes v.0) (G.writes v.1) h in
      let g = L.lawful.back v.1 more w.1 in
      let b = L.lettered (G.written v.1 ++ more) v.1 more g in
      let n = apart_letters m ns (G.written v.1 ++ more) far b in
      rw (append_assoc (F.written v.0) (G.written v.1) more, K.back v.0 (G.written v.1 ++ more) w.0 n, g)

  begins_either : (s rest : List ℕ) → begins ns rest ≡ true → (stands m s ≡ true) ⊎ (s ≡ rest) → begins (m ∷ ns) s ≡ true
  begins_either s rest b (inl h) = or_left _ h
  begins_either s rest b (inr h) = or_right (stands m s) (rw h b)

  pub optional_then : Lettered (m ∷ ns) (F ⊗ G)
  optional_then = record {
    lawful = record { back = optional_back; one = sequence_one F (λ _. G) K.one (λ a. L.lawful) };
    lettered = λ s v more e. let p = parts F (λ _. G) s v more e in begins_either s p.rest (L.lettered p.rest v.1 more p.second) (K.lettered s v.0 p.rest p.first);
  }
