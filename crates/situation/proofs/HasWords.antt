-- Every sound situation is the one of some words of the code. Assumes nothing.
use Prim.Native.Nat.{ℕ, ◌+◌, ◌/◌, ◌%◌, ◌^◌, ◌≤◌, ◌<◌}
use mathlib.Core.Bool.{Bool, true, not}
use mathlib.Core.List.{List, [], ◌∷◌}
use mathlib.Core.Path.{◌≡◌, refl, ap, ◌∙◌}
use native.Mathlib.Nat.{mod-lt, mod-eq_of_lt, lt_of_lt_of_le}
use native.Mathlib.Omega.{arith}
use borrow.Author.Tests.{ltb-true}
use lib.Dec.{T, eqb, ltb, eqb→eq}
use lib.Pow.{pow_pos, pow_mono}
use Rattle.words.specs.Words.{◌and◌}
use Rattle.sections.specs.Sections.{◌belongs_to◌, sections_up_to}
use Rattle.words.proofs.Tests.{holds_is, and_at}
use Rattle.sections.proofs.SetLaws.{below_of}
use Rattle.sections.proofs.SetsOfSets.{low_bit}
use Rattle.block.specs.Line.{first_section, entrance}
use Rattle.rulebook.specs.Situation.{Situation, held, any_exit_route}
use Rattle.rulebook.specs.Sound.{held_sound}
use Rattle.block.proofs.PlanLaws.{plan_short}
use Rattle.block.specs.declared.line.Direction.TheVariants.{TowardsA, TowardsB}
use Rattle.situation.specs.Packed.{Flags, flags_of, count_from, unpacked, flagged}
use Rattle.situation.specs.declared.Situation.{Situation as Packed}
use Rattle.situation.proofs.FlagLaws.{with_flag, then_flagged}
use Rattle.situation.proofs.CountBits.{bits_are}
use Rattle.rulebook.proofs.SoundnessKept.{parts}
use Rattle.rulebook.proofs.WatchKept.{facts}
use Rattle.situation.specs.HasWords.{HasWords}

-- ---- flags set one after the other
abbrev Flag : Type 0
Flag = ℕ × Bool

abbrev set_all : List Flag → ℕ → ℕ
set_all [] w = w
set_all (f ∷ l) w = set_all l (flagged w f.0 f.1)

abbrev say_all : List Flag → Flags → Flags
say_all [] s = s
say_all (f ∷ l) s = say_all l (with_flag f.0 f.1 s)

abbrev small : List Flag → Bool
small [] = true
small (f ∷ l) = ltb f.0 49 and small l

all_said : (l : List Flag) (w : ℕ) (s : Flags) → T (small l) → flags_of w ≡ s → flags_of (set_all l w) ≡ say_all l s
all_said [] w s t e = e
all_said (f ∷ l) w s t e =
    let h = and_at (ltb f.0 49) (small l) t in
    all_said l (flagged w f.0 f.1) (with_flag f.0 f.1 s) h.1 (then_flagged w f.0 f.1 (ltb-true f.0 49 (holds_is (ltb f.0 49) h.0)) e refl)

module _ (x : Situation) where
  abbrev flags : List Flag
  flags =
      (0, x.traffic.own.orientation.out) ∷ (1, x.traffic.own.orientation.inward)
      ∷ (2, x.traffic.own.annulment.afbli) ∷ (3, x.traffic.own.annulment.afble)
      ∷ (4, x.traffic.own.exit.normal) ∷ (5, x.traffic.own.exit.special)
      ∷ (6, x.traffic.own.entry) ∷ (7, x.traffic.own.bilc) ∷ (8, x.traffic.own.bslg) ∷ (9, x.traffic.own.reminder)
      ∷ (10, x.traffic.pending.own)
      ∷ (16, x.traffic.other.orientation.out) ∷ (17, x.traffic.other.orientation.inward)
      ∷ (18, x.traffic.other.annulment.afbli) ∷ (19, x.traffic.other.annulment.afble)
      ∷ (20, x.traffic.other.exit.normal) ∷ (21, x.traffic.other.exit.special)
      ∷ (22, x.traffic.other.entry) ∷ (23, x.traffic.other.bilc) ∷ (24, x.traffic.other.bslg) ∷ (25, x.traffic.other.reminder)
      ∷ (26, x.traffic.pending.other)
      ∷ (32, x.traffic.link)
      ∷ (33, x.traffic.track.watch.mark)
      ∷ (34, flags_of x.traffic.track.watch.count 0) ∷ (35, flags_of x.traffic.track.watch.count 1)
      ∷ (36, flags_of x.traffic.track.watch.count 2) ∷ (37, flags_of x.traffic.track.watch.count 3) ∷ []

  -- all flags stand below bit 48
  abbrev word : ℕ
  word = set_all flags 0 % 2 ^ 48

  words : Packed
  words = record { flags = word; occupied = x.traffic.track.occupied; signals = record { heldb = x.signals.held.towardsb; helda = x.signals.held.towardsa } }

  low_flag : (j : ℕ) → j < 48 → flags_of word j ≡ say_all flags (flags_of 0) j
  low_flag j h = ap (λ (n : ℕ). eqb n 1) (low_bit (set_all flags 0) 48 j h) ∙ ap (λ (f : Flags). f j) (all_said flags 0 (flags_of 0) tt refl)

  says : x.traffic.track.watch.count < 16 → unpacked words ≡ x
  unfolding words
  says small =
      let count : count_from 0 (flags_of x.traffic.track.watch.count) ≡ x.traffic.track.watch.count = bits_are x.traffic.track.watch.count ∙ mod-eq_of_lt small in
      rw (low_flag 0 (omega arith), low_flag 1 (omega arith), low_flag 2 (omega arith), low_flag 3 (omega arith), low_flag 4 (omega arith), low_flag 5 (omega arith), low_flag 6 (omega arith), low_flag 7 (omega arith), low_flag 8 (omega arith), low_flag 9 (omega arith), low_flag 10 (omega arith), low_flag 16 (omega arith), low_flag 17 (omega arith), low_flag 18 (omega arith), low_flag 19 (omega arith), low_flag 20 (omega arith), low_flag 21 (omega arith), low_flag 22 (omega arith), low_flag 23 (omega arith), low_flag 24 (omega arith), low_flag 25 (omega arith), low_flag 26 (omega arith), low_flag 32 (omega arith), low_flag 33 (omega arith), low_flag 34 (omega arith), low_flag 35 (omega arith), low_flag 36 (omega arith), low_flag 37 (omega arith), count)

-- ---- they fit
set_fits : (n m : ℕ) → n < 49 → T (sections_up_to n m) → m < 2 ^ 64
set_fits n m h t =
    let up : n + 1 ≤ 64 = omega arith in
    lt_of_lt_of_le (below_of m (n + 1) (eqb→eq (m / 2 ^ (n + 1)) 0 (and_at (not (0 belongs_to m)) (eqb (m / 2 ^ (n + 1)) 0) t).1)) (pow_mono up)

pub has_words : HasWords
unfolding words
has_words p plan x t =
    let s = parts p x t in
    let n : ℕ = p.sections in
    let short : n < 49 = plan_short p plan in
    let sets = and_at (sections_up_to n x.traffic.track.occupied and held_sound p x TowardsB) (held_sound p x TowardsA) s.sets in
    let first = and_at (sections_up_to n x.traffic.track.occupied) (held_sound p x TowardsB) sets.0 in
    let b = and_at (sections_up_to n (held x TowardsB)) (not (first_section p (entrance TowardsB) belongs_to held x TowardsB)) first.1 in
    let a = and_at (sections_up_to n (held x TowardsA)) (not (first_section p (entrance TowardsA) belongs_to held x TowardsA)) sets.1 in
    let watched = facts x.traffic.track (any_exit_route x) s.watch in
    let up : 48 ≤ 64 = omega arith in
    (words x, record { flags = lt_of_lt_of_le (mod-lt (set_all (flags x) 0) (pow_pos 48)) (pow_mono up); occupied = set_fits n x.traffic.track.occupied short first.0; heldb = set_fits n x.signals.held.towardsb short b.0; helda = set_fits n x.signals.held.towardsa short a.0 }, says x (omega (arith, watched.low)))
