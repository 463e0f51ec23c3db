-- A call: the number that it returns, and the bytes that it leaves in the room it was lent. The number's fields, read back.
use Rattle.std.specs.Prelude.{ℕ, ◌/◌, ◌%◌, List}

pub record Call : Type 0 where
  pub told : ℕ
  pub room : List ℕ

-- of an event call and of a key call: the refusal in the lowest byte, then a byte, then the rest
abbrev pub refusal_told : Call → ℕ
refusal_told c = c.told % 256

abbrev pub second_told : Call → ℕ
second_told c = c.told / 256 % 256

abbrev pub third_told : Call → ℕ
third_told c = c.told / 65536
