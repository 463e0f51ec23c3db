-- The bytes of a list of slots: joined as the lists are, six for each word of at most five places. From the definitions.
use Prim.Native.Nat.{ℕ, ◌*◌, ◌≤◌}
use mathlib.Core.Path.{◌≡◌, refl, sym, subst}
use mathlib.Core.List.Memᴰ.{append_left as in_left}
use mathlib.Core.List.Memᴰ.{head as here}
use mathlib.Core.List.Memᴰ.{tail as later}
use mathlib.Core.List.{List, [], ◌∷◌, ◌++◌, append_assoc, append-nil}
use native.Mathlib.Omega.{arith}
use lib.ListN.{length, take, drop, length-append, take-append-drop}
use mathlib.Core.List.{flatten}
use Rattle.keylaws.specs.Rules.{Word}
use Rattle.keylaws.specs.Key.{◌among◌}
use Rattle.keylaws.specs.Slots.{slot_of, slots}
use Rattle.keylaws.proofs.SlotsOfWords.{length_slot}

pub slots_append : (vs ws : List Word) → slots (vs ++ ws) ≡ slots vs ++ slots ws
unfolding slots flatten
slots_append [] ws = refl
slots_append (v ∷ vs) ws = rw (slots_append vs ws) (sym (append_assoc (slot_of v) (slots vs) (slots ws)))

pub slots_one : (w : Word) → slots (w ∷ []) ≡ slot_of w
unfolding slots flatten
slots_one w = append-nil (slot_of w)

-- no word has more than five places
abbrev pub Short : List Word → Type 0
Short ws = (w : Word) → w among ws → length w ≤ 5

pub short_take : (q : ℕ) (ws : List Word) → Short ws → Short (take q ws)
short_take q ws h w m = h w (subst (λ (l : List Word). w among l) (take-append-drop q ws) (in_left (drop q ws) m))

pub length_slots : (ws : List Word) → Short ws → length (slots ws) ≡ 6 * length ws
unfolding slots flatten
length_slots [] h = refl
length_slots (w ∷ ws) h =
    let e : length (slots ws) ≡ 6 * length ws = length_slots ws (λ v m. h v (later m)) in
    omega (arith, length-append (slot_of w) (slots ws), length_slot w (h w (here refl)))
