-- (02, Req 03) "no section has both its covering signals off red, exit signals counted"
use Rattle.std.specs.Prelude.{ℕ, ◌+◌, Bool, not, eqb}
use Rattle.words.specs.Words.{◌and◌}
use Rattle.block.specs.declared.line.Plan.{Plan}
use Rattle.block.specs.declared.line.Direction.{Direction}
use Rattle.block.specs.declared.line.Direction.TheVariants.{TowardsA, TowardsB}
use Rattle.rulebook.specs.Situation.{Kept}
use Rattle.aspects.specs.Aspects.{red, code, aspect}

-- "Each section k has a signal covering it towards B, named k, and one covering it towards A, named 128+k": exit signals are among them
abbrev pub covering : Direction → ℕ → ℕ
covering TowardsB k = k
covering TowardsA k = 128 + k

-- "off red", of an aspect's number
abbrev pub off_red : ℕ → Bool
off_red shown = not (eqb shown (code red))

abbrev pub is_off_red : Plan → Kept → ℕ → Bool
is_off_red p x signal = off_red (aspect p x signal)

-- "both its covering signals off red"
abbrev pub clear_both_ways : Plan → Kept → ℕ → Bool
clear_both_ways p x k = is_off_red p x (covering TowardsB k) and is_off_red p x (covering TowardsA k)
