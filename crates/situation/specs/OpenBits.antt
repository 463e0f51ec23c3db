-- What is proved of the words: which of their bits a contract by `unpacked` fixes. Two situations in words are the same situation exactly if they
-- agree in these flags, in the occupied sections and in the held signals; the other flags say nothing, and nothing is promised of them.
use Rattle.std.specs.Prelude.{ℕ, ◌≡◌, ◌↔◌, List, [], ◌∷◌}
use Rattle.situation.specs.Packed.{flags_of, unpacked}
use Rattle.situation.specs.declared.Situation.{Situation as Packed}

-- own's, the other's, link, mark and count
abbrev pub telling : List ℕ
telling =
    0 ∷ 1 ∷ 2 ∷ 3 ∷ 4 ∷ 5 ∷ 6 ∷ 7 ∷ 8 ∷ 9 ∷ 10
    ∷ 16 ∷ 17 ∷ 18 ∷ 19 ∷ 20 ∷ 21 ∷ 22 ∷ 23 ∷ 24 ∷ 25 ∷ 26
    ∷ 32 ∷ 33 ∷ 34 ∷ 35 ∷ 36 ∷ 37
    ∷ []

abbrev pub SameFlags : List ℕ → ℕ → ℕ → Type 0
SameFlags [] v w = Unit {0}
SameFlags (j ∷ bits) v w = (flags_of v j ≡ flags_of w j) × SameFlags bits v w

pub record Agree (x y : Packed) : Type 0 where
  pub flags : SameFlags telling x.flags y.flags
  pub occupied : x.occupied ≡ y.occupied
  pub heldb : x.signals.heldb ≡ y.signals.heldb
  pub helda : x.signals.helda ≡ y.signals.helda

abbrev pub OpenBits : Type 0
OpenBits = (x y : Packed) → (unpacked x ≡ unpacked y) ↔ Agree x y
