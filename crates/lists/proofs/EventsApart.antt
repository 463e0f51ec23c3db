-- Each event has a bit, in one of four words. Where no two events of a list share one, none is listed twice. Assumes nothing.
use Prim.Native.Nat.{ℕ, ◌+◌, ◌*◌, ◌/◌, ◌%◌, ◌<◌}
use mathlib.Core.Path.{◌≡◌, refl, sym, ap, ◌∙◌}
use mathlib.Core.Bool.{Bool, true, false, not}
use mathlib.Core.List.{List, [], ◌∷◌}
use native.Mathlib.Nat.{mod-lt}
use native.Mathlib.Omega.{arith}
use borrow.Author.Tests.{eqb-true, eqb-false, not-true}
use lib.ListN.{length, get_or, set, length-set}
use lib.Seq.{get_or-set_same, get_or-set_other}
use lib.Dec.{eqb}
use Rattle.words.specs.Words.{◌and◌}
use Rattle.sections.specs.Sections.{◌belongs_to◌, ◌with_section◌}
use Rattle.sections.proofs.SetLaws.{has_with_same, has_with_other}
use Rattle.rulebook.specs.Apply.{event}
use Rattle.block.specs.declared.event.Event.{Event}
use Rattle.forms.proofs.Reading.{both, never}
use Rattle.lists.specs.Refusal.{listed, listed_twice}

abbrev pub word : Event → ℕ
word e = e.code % 4

abbrev pub bit : Event → ℕ
bit e = (2 * (e.code / 4) + e.argument) % 32

word_small : (e : Event) → word e < 4
word_small e = mod-lt e.code (omega arith)

bit_small : (e : Event) → bit e < 32
bit_small e = mod-lt (2 * (e.code / 4) + e.argument) (omega arith)

-- the words with an event's bit, and whether they have it
unfoldable pub added : List ℕ → Event → List ℕ
added seen e = set seen (word e) (get_or seen (word e) 0 with_section bit e)

unfoldable pub has_bit : List ℕ → Event → Bool
has_bit seen e = bit e belongs_to get_or seen (word e) 0

-- no event has a bit that the words have or that an event before it has
unfoldable pub all_fresh : List ℕ → List Event → Bool
all_fresh seen [] = true
all_fresh seen (e ∷ rest) = not (has_bit seen e) and all_fresh (added seen e) rest

-- ---- one turn of the walk: w and k are the word and the bit of the event
pub one_added : (seen : List ℕ) (e : Event) (rest : List Event) (w k : ℕ) → w ≡ word e → k ≡ bit e → (k belongs_to get_or seen w 0) ≡ false
    → all_fresh (set seen w (get_or seen w 0 with_section k)) rest ≡ all_fresh seen (e ∷ rest)
unfolding all_fresh added has_bit
one_added seen e rest w k d f off =
    let fresh : has_bit seen e ≡ false = rw (← d, ← f) off in
    rw (d, f) (sym (rw fresh))

pub none_left : (seen : List ℕ) → all_fresh seen [] ≡ true
unfolding all_fresh
none_left seen = refl

-- ---- a bit, once there, stays
module _ (seen : List ℕ) (long : length seen ≡ 4) where
  added_long : (e : Event) → length (added seen e) ≡ 4
  unfolding added
  added_long e = simp length-set long

  just_added : (e : Event) → has_bit (added seen e) e ≡ true
  unfolding added has_bit
  just_added e =
      ap (λ (m : ℕ). bit e belongs_to m) (get_or-set_same seen (word e) (get_or seen (word e) 0 with_section bit e) 0 (omega (arith, word_small e)))
      ∙ has_with_same (get_or seen (word e) 0) (bit e) (omega (arith, bit_small e))

  -- another bit added to the same word, or a bit to another word
  in_word : (m j k : ℕ) → k < 32 → (j belongs_to m) ≡ true → (j belongs_to (m with_section k)) ≡ true
  in_word m j k s h = go (eqb k j) refl
    where
      go : (v : Bool) → eqb k j ≡ v → (j belongs_to (m with_section k)) ≡ true
      go true e = rw (← eqb-true k j e) (has_with_same m k (omega (arith, s)))
      go false e = has_with_other m k j (omega (arith, s)) (eqb-false k j e) ∙ h

  still_there : (e d : Event) → has_bit seen e ≡ true → has_bit (added seen d) e ≡ true
  unfolding added has_bit
  still_there e d h = go (eqb (word d) (word e)) refl
    where
      more : ℕ
      more = get_or seen (word d) 0 with_section bit d

      go : (v : Bool) → eqb (word d) (word e) ≡ v → (bit e belongs_to get_or (set seen (word d) more) (word e) 0) ≡ true
      go true z =
          let w = eqb-true (word d) (word e) z in
          rw (← w, get_or-set_same seen (word d) more 0 (omega (arith, word_small d)))
          (in_word (get_or seen (word d) 0) (bit e) (bit d) (bit_small d) (rw w h))
      go false z = rw (get_or-set_other seen (word d) (word e) more 0 (λ y. eqb-false (word d) (word e) z (sym y))) h

-- ---- an event whose bit is there is not among those that are fresh
differ : (seen : List ℕ) (e d : Event) → has_bit seen e ≡ true → has_bit seen d ≡ false → eqb d.code e.code and eqb d.argument e.argument ≡ false
differ seen e d h f = go (eqb d.code e.code and eqb d.argument e.argument) refl
  where
    go : (v : Bool) → eqb d.code e.code and eqb d.argument e.argument ≡ v → v ≡ false
    go false z = refl
    go true z =
        let s = both (eqb d.code e.code) (eqb d.argument e.argument) z in
        let p = eqb-true d.code e.code s.0 in
        let q = eqb-true d.argument e.argument s.1 in
        let same : event d.code d.argument ≡ event e.code e.argument = rw (p, q) in
        absurd (never (has_bit seen e) h (sym (ap (has_bit seen) same) ∙ f))

not_again : (e : Event) (t : List Event) (seen : List ℕ) → length seen ≡ 4 → has_bit seen e ≡ true → all_fresh seen t ≡ true → listed e t ≡ false
unfolding all_fresh listed
not_again e [] seen l h f = refl
not_again e (d ∷ rest) seen l h f =
    let g = both (not (has_bit seen d)) (all_fresh (added seen d) rest) f in
    rw (differ seen e d h (not-true (has_bit seen d) g.0), not_again e rest (added seen d) (added_long seen l d) (still_there seen l e d h) g.1)

pub fresh_apart : (t : List Event) (seen : List ℕ) → length seen ≡ 4 → all_fresh seen t ≡ true → listed_twice t ≡ false
unfolding all_fresh listed_twice
fresh_apart [] seen l f = refl
fresh_apart (e ∷ rest) seen l f =
    let g = both (not (has_bit seen e)) (all_fresh (added seen e) rest) f in
    rw (not_again e rest (added seen e) (added_long seen l e) (just_added seen l e) g.1, fresh_apart rest (added seen e) (added_long seen l e) g.1)
