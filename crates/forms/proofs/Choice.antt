-- One of two forms: lawful where no letters are of both. Also one or the other by a test that is known beforehand. Assumes nothing.
use Rattle.std.specs.Prelude.{if◌then◌else◌}
use Prim.Native.Nat.{ℕ}
use mathlib.Core.Path.{◌≡◌, refl, ap}
use mathlib.Core.Bool.{Bool, true, false, not}
use mathlib.Core.List.{List, ◌++◌}
use borrow.Author.Tests.{not-true}
use Rattle.words.specs.Words.{◌or◌}
use Rattle.forms.specs.Form.{Found, nothing, found, Form}
use Rattle.forms.specs.declared.Letters.{Letters}
use Rattle.forms.specs.Compose.{only}
use Rattle.forms.specs.Choices.{◌or_else◌, second_read}
use Rattle.forms.specs.Laws.{Lawful, Lettered, begins, apart}
use Rattle.forms.proofs.Reading.{never, both, both_of, same_value, same_rest, renamed}
use Rattle.forms.proofs.Simple.{only_law}
use Rattle.forms.proofs.Lettered.{apart_lists, begins_left, begins_right}

-- where the letters that the bytes begin with are not the form's, it reads nothing
pub reads_nothing : {A : Type 0} {ms : List Letters} {F : Form A} → Lettered ms F → (s : List ℕ) → begins ms s ≡ false → F.read s ≡ nothing
reads_nothing {F = F} K s b = by (F.read s) refl
  where
    by : (x : Found _) → F.read s ≡ x → F.read s ≡ nothing
    by nothing e = e
    by (found a rest) e = absurd (never _ (K.lettered s a rest e) b)

module _ {A : Type 0} {ms ns : List Letters} {F G : Form A} (K : Lettered ms F) (L : Lettered ns G) (far : apart ms ns ≡ true) where
  second_law : Lawful (only (λ a. not (F.writes a)) G)
  second_law = only_law (λ a. not (F.writes a)) L.lawful

  choice_back : (a : A) (rest : List ℕ) (v : Bool) → F.writes a ≡ v → v or G.writes a ≡ true → second_read (F.read ((if v then F.written a else G.written a) ++ rest)) F G ((if v then F.written a else G.written a) ++ rest) ≡ found a rest
  choice_back a rest true e h = rw (K.lawful.back a rest e)
  choice_back a rest false e h =
      let b = L.lettered (G.written a ++ rest) a rest (L.lawful.back a rest h) in
      rw (reads_nothing K (G.written a ++ rest) (apart_lists ms ns (G.written a ++ rest) far b))
      (second_law.back a rest (both_of (ap not e) h))

  record First (s : List ℕ) (a : A) (rest : List ℕ) : Type 0 where
    writes : (F.writes a or G.writes a) ≡ true
    written : s ≡ (if F.writes a then F.written a else G.written a) ++ rest
    lettered : begins (ms ++ ns) s ≡ true

  choice_one : (s : List ℕ) (a : A) (rest : List ℕ) (x : Found A) → F.read s ≡ x → second_read x F G s ≡ found a rest → First s a rest
  choice_one s a rest (found b r) e h =
      let w = K.lawful.one s a rest (renamed e (same_value h) (same_rest h)) in
      record { writes = rw w.0; written = rw w.0 w.1; lettered = begins_left ms ns s (K.lettered s b r e) }
  choice_one s a rest nothing e h =
      let w = second_law.one s a rest h in
      let t = both (not (F.writes a)) (G.writes a) w.0 in
      let f = not-true (F.writes a) t.0 in
      record { writes = rw (f, t.1); written = rw f w.1; lettered = begins_right ms ns s (L.lettered s a rest (second_read_of s a rest h)) }
    where
      second_read_of : (s : List ℕ) (a : A) (rest : List ℕ) → (only (λ a. not (F.writes a)) G).read s ≡ found a rest → G.read s ≡ found a rest
      second_read_of s a rest h = rw (second_law.one s a rest h).1 (L.lawful.back a rest (both (not (F.writes a)) (G.writes a) (second_law.one s a rest h).0).1)

  pub choice_law : Lettered (ms ++ ns) (F or_else G)
  choice_law = record {
    lawful = record {
      back = λ a rest h. choice_back a rest (F.writes a) refl h;
      one = λ s a rest e. let f = choice_one s a rest (F.read s) refl e in (f.writes, f.written);
    };
    lettered = λ s a rest e. (choice_one s a rest (F.read s) refl e).lettered;
  }

-- a test that is known before
pub if_law : {A : Type 0} {ms ns : List Letters} {F G : Form A} (v : Bool) → Lettered ms F → Lettered ns G → Lettered (ms ++ ns) (if v then F else G)
if_law {ms = ms} {ns = ns} true K L = record { lawful = K.lawful; lettered = λ s a rest e. begins_left ms ns s (K.lettered s a rest e) }
if_law {ms = ms} {ns = ns} false K L = record { lawful = L.lawful; lettered = λ s a rest e. begins_right ms ns s (L.lettered s a rest e) }
