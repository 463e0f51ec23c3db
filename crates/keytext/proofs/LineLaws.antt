-- Lines piece by piece, and how long they are. From the definitions.
use Prim.Native.Nat.{ℕ, suc, ◌+◌, ◌*◌, ◌≤◌, ◌<◌}
use mathlib.Core.Path.{◌≡◌, refl, sym, ap}
use mathlib.Core.List.{List, [], ◌∷◌, ◌++◌, append_assoc, append-nil}
use native.Mathlib.Numerals.{add-one}
use native.Mathlib.Omega.{arith}
use lib.ListN.{length, take, drop, get_or, length-append, take-append-drop}
use lib.Seq.{take-suc}
use Rattle.keylaws.specs.Rules.{Word}
use Rattle.keytext.specs.Decimal.{decimal}
use Rattle.keytext.specs.Text.{newline, space, hyphen, spaced, line, labelled}
use Rattle.keytext.proofs.DecimalLaws.{decimal_short}
use Rattle.keytext.proofs.WordLaws.{Bytes}

-- ---- places after spaces
pub spaced_append : (v w : Word) → spaced (v ++ w) ≡ spaced v ++ spaced w
unfolding spaced
spaced_append [] w = refl
spaced_append (p ∷ v) w = rw (spaced_append v w, append_assoc)

-- the first places, and one more
pub spaced_more : (w : Word) (i : ℕ) → i < length w → spaced (take (i + 1) w) ≡ (spaced (take i w) ++ (space ∷ [])) ++ decimal (get_or w i 0)
unfolding spaced
spaced_more w i h =
    rw (add-one, take-suc w i 0 h, spaced_append, append-nil) (sym (append_assoc (spaced (take i w)) (space ∷ []) (decimal (get_or w i 0))))

pub spaced_longer : (w : Word) (i : ℕ) → i < length w → length (spaced (take (i + 1) w)) ≡ length (spaced (take i w)) + 1 + length (decimal (get_or w i 0))
spaced_longer w i h = rw (spaced_more w i h, length-append, length-append)

pub spaced_within : (w : Word) (n : ℕ) → length (spaced (take n w)) ≤ length (spaced w)
spaced_within w n =
    let both = spaced_append (take n w) (drop n w) in
    omega (arith, length-append (spaced (take n w)) (spaced (drop n w)), ap length both, ap (λ (v : Word). length (spaced v)) (take-append-drop n w))

-- ---- lines
pub line_none : (w : Word) → length w < 1 → line w ≡ hyphen ∷ newline ∷ []
unfolding line
line_none [] h = refl
line_none (p ∷ w) h = absurd (omega arith)

pub line_more : (w : Word) → 1 ≤ length w → line w ≡ (decimal (get_or w 0 0) ++ spaced (drop 1 w)) ++ (newline ∷ [])
unfolding line
line_more [] h = absurd (omega arith)
line_more (p ∷ w) h = sym (append_assoc (decimal p) (spaced w) (newline ∷ []))

pub line_length : (w : Word) → 1 ≤ length w → length (line w) ≡ length (decimal (get_or w 0 0)) + length (spaced (drop 1 w)) + 1
line_length w h = rw (line_more w h, length-append, length-append)

pub labelled_length : (label : List ℕ) (n : ℕ) → length (labelled label n) ≡ length label + 1 + length (decimal n) + 1
unfolding labelled
labelled_length label n = simp length-append (omega arith)

pub labelled_whole : (label : List ℕ) (n : ℕ) → ((label ++ (space ∷ [])) ++ decimal n) ++ (newline ∷ []) ≡ labelled label n
unfolding labelled
labelled_whole label n = simp append_assoc

-- ---- the longest of them
spaced_short : (w : Word) → Bytes w → length (spaced w) ≤ 4 * length w
unfolding spaced
spaced_short [] h = omega arith
spaced_short (p ∷ w) h = rw length-append (omega (arith, decimal_short 2 p (omega (arith, h 0)), spaced_short w (λ i. h (suc i))))

pub line_short : (w : Word) → Bytes w → length w ≤ 5 → length (line w) ≤ 20
unfolding line
line_short [] h l = omega arith
line_short (p ∷ w) h l = simp length-append (omega (arith, decimal_short 2 p (omega (arith, h 0)), spaced_short w (λ i. h (suc i))))
