-- A refusal's number is not 0, so that a call is told 0 exactly where it is accepted.
use mathlib.Core.Path.{◌≡◌}
use native.Mathlib.Omega.{arith}
use Rattle.block.specs.Refusals.{number}
use Rattle.block.specs.declared.refused.Refusal.{Refusal}
use Rattle.block.specs.declared.refused.Refusal.TheVariants.{NoPlan, NotSound, UnknownCode, WrongArgument, Already, LinkDown, Pending, Annulled, ExitRoute, EntryRoute, Bilc, Oriented, Occupied, Reminder, OtherRoute, Bslg, Bslb, NoForm, OutOfRange, MalformedSlot, ShortRoom}

pub not_accepted : (r : Refusal) → number r ≡ 0 → ⊥
not_accepted NoPlan e = omega arith
not_accepted NotSound e = omega arith
not_accepted UnknownCode e = omega arith
not_accepted WrongArgument e = omega arith
not_accepted Already e = omega arith
not_accepted LinkDown e = omega arith
not_accepted Pending e = omega arith
not_accepted Annulled e = omega arith
not_accepted ExitRoute e = omega arith
not_accepted EntryRoute e = omega arith
not_accepted Bilc e = omega arith
not_accepted Oriented e = omega arith
not_accepted Occupied e = omega arith
not_accepted Reminder e = omega arith
not_accepted OtherRoute e = omega arith
not_accepted Bslg e = omega arith
not_accepted Bslb e = omega arith
not_accepted NoForm e = omega arith
not_accepted OutOfRange e = omega arith
not_accepted MalformedSlot e = omega arith
not_accepted ShortRoom e = omega arith
