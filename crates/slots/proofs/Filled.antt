-- So many places, then zeros: the bytes cut there, each part tested as a whole. By induction on the places.
use Rattle.std.proofs.Common.{◌≡◌, ◌≤◌, ◌<◌, ℕ, zero, suc, List, [], ◌∷◌, length, Bool, false, ◌&&◌, ◌==◌, take, drop, refl, sym, arith}
use Rattle.std.proofs.lemmas.Bool.{and_right, ne_eqb}
use Rattle.std.proofs.Math.Bool.{and_assoc}
use Rattle.std.specs.List.{list_all, IsSplitAt}
use Rattle.keylaws.specs.Slots.{filled, is_place}

abbrev zeros : List ℕ → Bool
zeros x = list_all (λ b. b == 0) x

none_left : (n : ℕ) (x : List ℕ) → filled n 0 x ≡ zeros x
unfolding filled
none_left n [] = refl
none_left n (b ∷ x) = rw (none_left n x) refl

parts : (n l : ℕ) (x : List ℕ) → l ≤ length x → filled n l x ≡ (list_all (is_place n) (take l x) && zeros (drop l x))
unfolding filled
parts n zero x h = none_left n x
parts n (suc l) [] h = absurd (omega arith)
parts n (suc l) (b ∷ x) h = rw (parts n l x (omega arith)) (sym (and_assoc (is_place n b) (list_all (is_place n) (take l x)) (zeros (drop l x))))

pub filled_split : (n l : ℕ) (x : List ℕ) {m : ℕ} {front back : List ℕ} → m ≡ l → IsSplitAt x m front back → filled n l x ≡ (list_all (is_place n) front && zeros back)
filled_split n l x e s = rw (s.1, s.2, e) (parts n l x (omega arith))

pub filled_short : (n l : ℕ) (x : List ℕ) → length x < l → filled n l x ≡ false
unfolding filled
filled_short n zero x h = absurd (omega arith)
filled_short n (suc l) [] h = ne_eqb (suc l) 0 (omega arith)
filled_short n (suc l) (b ∷ x) h = rw (filled_short n l x (omega arith)) (and_right (is_place n b) false refl)
