-- A reader need not believe this file: sets made of sets, as the code makes them. proofs/SetsOfSets says which sections they hold.
use Rattle.std.specs.Prelude.{ℕ, ◌+◌, ◌-◌, ◌*◌, ◌/◌, ◌%◌, ◌^◌}
use Rattle.std.specs.Int.Bits.{bit_or, bit_and, bit_xor}

infixl 65 ◌minus◌
abbrev pub both : ℕ → ℕ → ℕ
both a b = bit_and a b

abbrev pub either : ℕ → ℕ → ℕ
either a b = bit_or a b

-- the sections of a that are not in b
abbrev pub ◌minus◌ : ℕ → ℕ → ℕ
a minus b = bit_xor a (bit_and a b)

-- the sections 1 to n
abbrev pub up_to : ℕ → ℕ
up_to n = 2 ^ (n + 1) - 2

-- each section's number one less, and one more, in a word
abbrev pub one_down : ℕ → ℕ
one_down m = m / 2 ^ 1

abbrev pub one_up : ℕ → ℕ
one_up m = m * 2 ^ 1 % 2 ^ 64
