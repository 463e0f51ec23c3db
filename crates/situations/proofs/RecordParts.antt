-- A record taken apart into the bytes of SI and the two behind them has the codes that it had whole. Assumes nothing.
use Prim.Native.Nat.{ℕ, ◌+◌, ◌-◌, ◌≤◌, ◌<◌}
use mathlib.Core.Path.{◌≡◌, refl, sym, ap, ◌∙◌}
use mathlib.Core.Bool.{Bool, true, false}
use mathlib.Core.List.{List, [], ◌∷◌}
use native.Mathlib.Omega.{arith}
use lib.ListN.{length, take, drop, get_or, length-drop}
use lib.Seq.{length-take-le}
use lib.Dec.{ltb}
use Rattle.std.proofs.lemmas.List.{get_or-take, take-take}
use Rattle.std.proofs.lemmas.Slice.{between_is}
use Rattle.forms.specs.Compose.{section}
use Rattle.forms.specs.Taken.{value}
use Rattle.records.specs.InBytes.{field_at, codes_at}

-- the bytes that follow a field say nothing of it
two_bytes : (x y : ℕ) (t : List ℕ) → value 0 (section 2) (x ∷ y ∷ []) ≡ value 0 (section 2) (x ∷ y ∷ t)
unfolding value
two_bytes x y t = by (ltb x 256) refl (ltb y 256) refl
  where
    by : (v : Bool) → ltb x 256 ≡ v → (w : Bool) → ltb y 256 ≡ w → value 0 (section 2) (x ∷ y ∷ []) ≡ value 0 (section 2) (x ∷ y ∷ t)
    by false e w f = rw e
    by true e false f = rw (e, f)
    by true e true f = rw (e, f)

two_first : (t : List ℕ) → 2 ≤ length t → value 0 (section 2) (take 2 t) ≡ value 0 (section 2) t
two_first [] h = absurd (omega arith)
two_first (x ∷ []) h = absurd (omega arith)
two_first (x ∷ y ∷ t) h = two_bytes x y t

module _ (s : List ℕ) where
  -- a field by itself
  pub field_alone : (k : ℕ) → k + 2 ≤ length s → value 0 (section (length (take 2 (drop k s)))) (take 2 (drop k s)) ≡ field_at 2 s k
  field_alone k h =
      let m : 2 ≤ length (drop k s) = omega (arith, length-drop k s) in
      let l : length (take 2 (drop k s)) ≡ 2 = length-take-le 2 (drop k s) m in
      rw l (two_first (drop k s) m)

  module _ (h : 21 ≤ length s) where
    byte_before : (i : ℕ) → i < 21 → get_or (take 21 s) i 0 ≡ get_or s i 0
    byte_before i l = get_or-take 21 s i 0 l

    field_before : (k : ℕ) → k + 2 ≤ 21 → field_at 2 (take 21 s) k ≡ field_at 2 s k
    field_before k l =
        let a : 21 ≤ length (take 21 s) = omega (arith, length-take-le 21 s h) in
        let cut = sym (between_is s k 21) in
        sym (two_first (drop k (take 21 s)) (omega (arith, length-drop k (take 21 s))))
        ∙ ap (λ (t : List ℕ). value 0 (section 2) (take 2 t)) cut
        ∙ ap (value 0 (section 2)) (take-take 2 (21 - k) (drop k s) (omega arith))
        ∙ two_first (drop k s) (omega (arith, length-drop k s))

    pub codes_front : {m n : ℕ} → m ≡ get_or s 21 0 → n ≡ get_or s 22 0 → record (codes_at (take 21 s)) { mark = m; count = n } ≡ codes_at s
    unfolding codes_at
    codes_front e f =
        let b : (i : ℕ) → i < 21 → get_or (take 21 s) i 0 ≡ get_or s i 0 = byte_before in
        rw (e, f, b 2 (omega arith), b 3 (omega arith), b 4 (omega arith), b 5 (omega arith), b 6 (omega arith), b 7 (omega arith), b 8 (omega arith), b 9 (omega arith), b 10 (omega arith), b 11 (omega arith), b 12 (omega arith), b 13 (omega arith), b 14 (omega arith), field_before 15 (omega arith), field_before 17 (omega arith), field_before 19 (omega arith))
