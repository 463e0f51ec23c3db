-- "Refusals": the document's number of each.
use Rattle.std.specs.Prelude.{ℕ, Result, Ok, Err}
use Rattle.block.specs.declared.refused.Refusal.{Refusal}
use Rattle.block.specs.declared.refused.Refusal.TheVariants.{NoPlan, NotSound, UnknownCode, WrongArgument, Already, LinkDown, Pending, Annulled, ExitRoute, EntryRoute, Bilc, Oriented, Occupied, Reminder, OtherRoute, Bslg, Bslb, NoForm, OutOfRange, MalformedSlot, ShortRoom}

abbrev pub number : Refusal → ℕ
number NoPlan = 1
number NotSound = 2
number UnknownCode = 3
number WrongArgument = 4
number Already = 5
number LinkDown = 6
number Pending = 7
number Annulled = 8
number ExitRoute = 9
number EntryRoute = 10
number Bilc = 11
number Oriented = 12
number Occupied = 13
number Reminder = 14
number OtherRoute = 15
number Bslg = 16
number Bslb = 17
number NoForm = 20
number OutOfRange = 21
number MalformedSlot = 22
number ShortRoom = 24

-- "0 is accepted": what is told of an answer
abbrev pub told : {A : Type 0} → Result A Refusal → ℕ
told (Ok a) = 0
told (Err r) = number r
