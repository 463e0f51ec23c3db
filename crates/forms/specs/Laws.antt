-- What is shown of forms.
use Rattle.std.specs.Prelude.{ℕ, ◌≡◌, Bool, true, false, not, ◌⊎◌, List, [], ◌∷◌, ◌++◌, eqb}
use Rattle.words.specs.Words.{◌and◌, ◌or◌}
use Rattle.forms.specs.Form.{found, Form}
use Rattle.forms.specs.declared.Letters.{Letters}
use Rattle.forms.specs.Compose.{stands}
use Rattle.forms.specs.Choices.{all_zero}

-- what is written is read, whatever follows it; and what is read was written so, in the one way
pub record Lawful {A : Type 0} (F : Form A) : Type 0 where
  pub back : (a : A) (rest : List ℕ) → F.writes a ≡ true → F.read (F.written a ++ rest) ≡ found a rest
  pub one : (s : List ℕ) (a : A) (rest : List ℕ) → F.read s ≡ found a rest → (F.writes a ≡ true) × (s ≡ F.written a ++ rest)

-- the bytes begin with some of these letters
abbrev pub begins : List Letters → List ℕ → Bool
begins [] s = false
begins (m ∷ ms) s = stands m s or begins ms s

-- a lawful form that reads nothing but what begins with some of these letters
pub record Lettered {A : Type 0} (ms : List Letters) (F : Form A) : Type 0 where
  pub lawful : Lawful F
  pub lettered : (s : List ℕ) (a : A) (rest : List ℕ) → F.read s ≡ found a rest → begins ms s ≡ true

-- a form that may be left out: it is read back where what follows does not begin with its letters
pub record Optional {A : Type 0} (m : Letters) (F : Form A) : Type 0 where
  pub back : (a : A) (rest : List ℕ) → F.writes a ≡ true → stands m rest ≡ false → F.read (F.written a ++ rest) ≡ found a rest
  pub one : (s : List ℕ) (a : A) (rest : List ℕ) → F.read s ≡ found a rest → (F.writes a ≡ true) × (s ≡ F.written a ++ rest)
  -- where it is not left out, it begins with its letters
  pub lettered : (s : List ℕ) (a : A) (rest : List ℕ) → F.read s ≡ found a rest → (stands m s ≡ true) ⊎ (s ≡ rest)

-- no letters are in both lists
abbrev pub same : Letters → Letters → Bool
same m n = eqb m.first n.first and eqb m.second n.second

abbrev pub among : Letters → List Letters → Bool
among m [] = false
among m (n ∷ ns) = same m n or among m ns

abbrev pub apart : List Letters → List Letters → Bool
apart [] ns = true
apart (m ∷ ms) ns = not (among m ns) and apart ms ns

-- all of a body is zero for one value only: the one that it is left out for
pub record Alone {A : Type 0} (none : A) (F : Form A) : Type 0 where
  pub none_writes : F.writes none ≡ true
  pub none_zero : all_zero (F.written none) ≡ true
  pub only_none : (a : A) → F.writes a ≡ true → all_zero (F.written a) ≡ true → none ≡ a
