-- The words that the code makes of codes in range say the situation that they say. Assumes nothing.
use Prim.Native.Nat.{ℕ, zero, suc, ◌+◌, ◌*◌, ◌/◌, ◌%◌, ◌^◌, ◌≤◌, ◌<◌}
use mathlib.Core.Path.{◌≡◌, refl, sym, ap, ◌∙◌}
use mathlib.Core.Bool.{Bool, true}
use native.Mathlib.Omega.{arith}
use borrow.Author.Tests.{leb-true}
use lib.Dec.{eqb}
use lib.Pow.{shr-shr}
use Rattle.sections.specs.Sections.{◌belongs_to◌}
use Rattle.sections.proofs.SetsOfSets.{low_bit}
use Rattle.situation.specs.Packed.{unpacked, flags_of, count_from}
use Rattle.situation.proofs.CountBits.{count_is}
use Rattle.records.specs.Situation.{Codes, in_range, said}
use Rattle.records.proofs.CodesLaws.{codes_right}
use Rattle.situations.specs.InWords.{StationCodes, bits_of, station_word, line_word, flags_word, codes_A, codes_B, in_words}

-- ---- a code below a number, and a flag: its bits, and then those of the number
one_is_odd : (a : ℕ) → a ≤ 2 → eqb (a % 2) 1 ≡ eqb a 1
one_is_odd zero h = refl
one_is_odd (suc zero) h = refl
one_is_odd (suc (suc zero)) h = refl
one_is_odd (suc (suc (suc n))) h = absurd (omega arith)

two_is_half : (a : ℕ) → a ≤ 2 → eqb (a / 2) 1 ≡ eqb a 2
two_is_half zero h = refl
two_is_half (suc zero) h = refl
two_is_half (suc (suc zero)) h = refl
two_is_half (suc (suc (suc n))) h = absurd (omega arith)

code_one : (a m : ℕ) → a ≤ 2 → (0 belongs_to (a + 4 * m)) ≡ eqb a 1
code_one a m h = let e : (a + 4 * m) / 2 ^ 0 % 2 ≡ a % 2 = omega arith in rw e (one_is_odd a h)

code_two : (a m : ℕ) → a ≤ 2 → (1 belongs_to (a + 4 * m)) ≡ eqb a 2
code_two a m h = let e : (a + 4 * m) / 2 ^ 1 % 2 ≡ a / 2 = omega arith in rw e (two_is_half a h)

flag_one : (a m : ℕ) → a ≤ 1 → (0 belongs_to (a + 2 * m)) ≡ eqb a 1
flag_one a m h = let e : (a + 2 * m) / 2 ^ 0 % 2 ≡ a = omega arith in rw e

-- the bits of a word from the j-th on are those of what is left of it there
bit_from : (w j m : ℕ) → w / 2 ^ j ≡ m → (k : ℕ) → ((j + k) belongs_to w) ≡ (k belongs_to m)
bit_from w j m e k = ap (λ (n : ℕ). eqb (n % 2) 1) (sym (shr-shr w j k) ∙ ap (λ (n : ℕ). n / 2 ^ k) e)

past_code : (w j a m : ℕ) → a ≤ 2 → w / 2 ^ j ≡ a + 4 * m → w / 2 ^ (j + 2) ≡ m
past_code w j a m h e = sym (shr-shr w j 2) ∙ omega arith

past_flag : (w j a m : ℕ) → a ≤ 1 → w / 2 ^ j ≡ a + 2 * m → w / 2 ^ (j + 1) ≡ m
past_flag w j a m h e = sym (shr-shr w j 1) ∙ omega arith

-- ---- a station's word
pub record Small (c : StationCodes) : Type 0 where
  pub orientation : c.orientation ≤ 2
  pub annulment : c.annulment ≤ 2
  pub exit : c.exit ≤ 2
  pub entry : c.entry ≤ 1
  pub bilc : c.bilc ≤ 1
  pub bslg : c.bslg ≤ 1
  pub reminder : c.reminder ≤ 1
  pub asks : c.asks ≤ 1

module _ (c : StationCodes) (s : Small c) where
  abbrev word : ℕ
  word = station_word c

  -- what is left of the word from each code on
  abbrev asks⁺ : ℕ
  asks⁺ = c.asks

  abbrev reminder⁺ : ℕ
  reminder⁺ = c.reminder + 2 * asks⁺

  abbrev bslg⁺ : ℕ
  bslg⁺ = c.bslg + 2 * reminder⁺

  abbrev entry⁺ : ℕ
  entry⁺ = c.entry + 2 * bits_of c

  abbrev exit⁺ : ℕ
  exit⁺ = c.exit + 4 * entry⁺

  abbrev annulment⁺ : ℕ
  annulment⁺ = c.annulment + 4 * exit⁺

  from_annulment : word / 2 ^ 2 ≡ annulment⁺
  from_annulment = past_code word 0 c.orientation annulment⁺ s.orientation (omega arith)

  from_exit : word / 2 ^ 4 ≡ exit⁺
  from_exit = past_code word 2 c.annulment exit⁺ s.annulment from_annulment

  from_entry : word / 2 ^ 6 ≡ entry⁺
  from_entry = past_code word 4 c.exit entry⁺ s.exit from_exit

  from_bilc : word / 2 ^ 7 ≡ bits_of c
  from_bilc = past_flag word 6 c.entry (bits_of c) s.entry from_entry

  from_bslg : word / 2 ^ 8 ≡ bslg⁺
  from_bslg = past_flag word 7 c.bilc bslg⁺ s.bilc from_bilc

  from_reminder : word / 2 ^ 9 ≡ reminder⁺
  from_reminder = past_flag word 8 c.bslg reminder⁺ s.bslg from_bslg

  from_asks : word / 2 ^ 10 ≡ asks⁺
  from_asks = past_flag word 9 c.reminder asks⁺ s.reminder from_reminder

  abbrev At : ℕ → ℕ → ℕ → Type 0
  At j code value = (j belongs_to word) ≡ eqb code value

  pub out : At 0 c.orientation 1
  out = code_one c.orientation annulment⁺ s.orientation

  pub inward : At 1 c.orientation 2
  inward = code_two c.orientation annulment⁺ s.orientation

  pub afbli : At 2 c.annulment 1
  afbli = bit_from word 2 annulment⁺ from_annulment 0 ∙ code_one c.annulment exit⁺ s.annulment

  pub afble : At 3 c.annulment 2
  afble = bit_from word 2 annulment⁺ from_annulment 1 ∙ code_two c.annulment exit⁺ s.annulment

  pub normal : At 4 c.exit 1
  normal = bit_from word 4 exit⁺ from_exit 0 ∙ code_one c.exit entry⁺ s.exit

  pub special : At 5 c.exit 2
  special = bit_from word 4 exit⁺ from_exit 1 ∙ code_two c.exit entry⁺ s.exit

  pub entry : At 6 c.entry 1
  entry = bit_from word 6 entry⁺ from_entry 0 ∙ flag_one c.entry (bits_of c) s.entry

  pub bilc : At 7 c.bilc 1
  bilc = bit_from word 7 (bits_of c) from_bilc 0 ∙ flag_one c.bilc bslg⁺ s.bilc

  pub bslg : At 8 c.bslg 1
  bslg = bit_from word 8 bslg⁺ from_bslg 0 ∙ flag_one c.bslg reminder⁺ s.bslg

  pub reminder : At 9 c.reminder 1
  reminder = bit_from word 9 reminder⁺ from_reminder 0 ∙ flag_one c.reminder asks⁺ s.reminder

  pub asks : At 10 c.asks 1
  asks = let e : asks⁺ % 2 ≡ c.asks = omega arith in rw (from_asks, e)

  pub word_small : word < 65536
  word_small = omega (arith, s.orientation, s.annulment, s.exit, s.entry, s.bilc, s.bslg, s.reminder, s.asks)

-- ---- the three in one word
module _ (a b l : ℕ) (low : a < 65536) (mid : b < 65536) where
  abbrev whole : ℕ
  whole = flags_word a b l

  pub own_bit : (j : ℕ) → j < 16 → (j belongs_to whole) ≡ (j belongs_to a)
  own_bit j h =
      let e : whole % 2 ^ 16 ≡ a = omega arith in
      ap (λ (n : ℕ). eqb n 1) (sym (low_bit whole 16 j h) ∙ ap (λ (n : ℕ). n / 2 ^ j % 2) e)

  upper : whole / 2 ^ 16 ≡ b + 65536 * l
  upper = omega arith

  pub other_bit : (j : ℕ) → j < 16 → ((16 + j) belongs_to whole) ≡ (j belongs_to b)
  other_bit j h =
      let e : (b + 65536 * l) % 2 ^ 16 ≡ b = omega arith in
      bit_from whole 16 (b + 65536 * l) upper j ∙ ap (λ (n : ℕ). eqb n 1) (sym (low_bit (b + 65536 * l) 16 j h) ∙ ap (λ (n : ℕ). n / 2 ^ j % 2) e)

  from_line : whole / 2 ^ 32 ≡ l
  from_line = sym (shr-shr whole 16 16) ∙ ap (λ (n : ℕ). n / 2 ^ 16) upper ∙ omega arith

  -- the bits of the line
  pub line_bit : (j : ℕ) → ((32 + j) belongs_to whole) ≡ (j belongs_to l)
  line_bit = bit_from whole 32 l from_line

  pub from_count : (link mark count : ℕ) → link ≤ 1 → mark ≤ 1 → l ≡ line_word link mark count → whole / 2 ^ 34 ≡ count
  from_count link mark count h k e = past_flag whole 33 mark count k (past_flag whole 32 link (mark + 2 * count) h (from_line ∙ e))

-- ---- the codes
module _ (c : Codes) (r : in_range c ≡ true) where
  small_A : Small (codes_A c)
  small_A =
      let k = codes_right c r in
      record {
        orientation = leb-true _ _ k.orientation.0;
        annulment = leb-true _ _ k.annulment.0;
        exit = leb-true _ _ k.exit.0;
        entry = leb-true _ _ k.entry.0;
        bilc = omega arith;
        bslg = omega arith;
        reminder = omega arith;
        asks = omega arith;
      }

  small_B : Small (codes_B c)
  small_B =
      let k = codes_right c r in
      record {
        orientation = leb-true _ _ k.orientation.1;
        annulment = leb-true _ _ k.annulment.1;
        exit = leb-true _ _ k.exit.1;
        entry = leb-true _ _ k.entry.1;
        bilc = omega (arith, leb-true c.bilc 3 k.stations.0);
        bslg = omega (arith, leb-true c.bslg 3 k.stations.1);
        reminder = omega (arith, leb-true c.reminder 3 k.stations.2);
        asks = omega (arith, leb-true c.pending 2 k.pending);
      }

  abbrev own : ℕ
  own = station_word (codes_A c)

  abbrev other : ℕ
  other = station_word (codes_B c)

  low : own < 65536
  low = word_small (codes_A c) small_A

  mid : other < 65536
  mid = word_small (codes_B c) small_B

  abbrev line : ℕ
  line = line_word c.link c.mark c.count

  of_own : (j : ℕ) → j < 16 → {v : Bool} → (j belongs_to own) ≡ v → (j belongs_to flags_word own other line) ≡ v
  of_own j h e = own_bit own other line low mid j h ∙ e

  of_other : (j : ℕ) → j < 16 → {v : Bool} → (j belongs_to other) ≡ v → ((16 + j) belongs_to flags_word own other line) ≡ v
  of_other j h e = other_bit own other line low mid j h ∙ e

  count_said : count_from 34 (flags_of (flags_word own other line)) ≡ c.count
  count_said =
      let k = codes_right c r in
      let from = from_count own other line low mid c.link c.mark c.count (leb-true c.link 1 k.link) (leb-true c.mark 1 k.watch.0) refl in
      count_is (flags_word own other line) ∙ omega (arith, from, leb-true c.count 10 k.watch.1)

  pub in_words_say : unpacked (in_words c) ≡ said c
  unfolding in_words said
  in_words_say =
      let k = codes_right c r in
      let pending = leb-true c.pending 2 k.pending in
      let link = leb-true c.link 1 k.link in
      let mark = leb-true c.mark 1 k.watch.0 in
      let a = codes_A c in
      let b = codes_B c in
      rw (
        line_bit own other line low mid 0 ∙ flag_one c.link (c.mark + 2 * c.count) link,
        line_bit own other line low mid 1 ∙ bit_from line 1 (c.mark + 2 * c.count) (past_flag line 0 c.link (c.mark + 2 * c.count) link (omega arith)) 0 ∙ flag_one c.mark c.count mark,
        count_said,
        of_own 0 (omega arith) (out a small_A),
        of_own 1 (omega arith) (inward a small_A),
        of_own 2 (omega arith) (afbli a small_A),
        of_own 3 (omega arith) (afble a small_A),
        of_own 4 (omega arith) (normal a small_A),
        of_own 5 (omega arith) (special a small_A),
        of_own 6 (omega arith) (entry a small_A),
        of_own 7 (omega arith) (bilc a small_A),
        of_own 8 (omega arith) (bslg a small_A),
        of_own 9 (omega arith) (reminder a small_A),
        of_own 10 (omega arith) (asks a small_A ∙ one_is_odd c.pending pending),
        of_other 0 (omega arith) (out b small_B),
        of_other 1 (omega arith) (inward b small_B),
        of_other 2 (omega arith) (afbli b small_B),
        of_other 3 (omega arith) (afble b small_B),
        of_other 4 (omega arith) (normal b small_B),
        of_other 5 (omega arith) (special b small_B),
        of_other 6 (omega arith) (entry b small_B),
        of_other 7 (omega arith) (bilc b small_B),
        of_other 8 (omega arith) (bslg b small_B),
        of_other 9 (omega arith) (reminder b small_B),
        of_other 10 (omega arith) (asks b small_B ∙ two_is_half c.pending pending),
      )
