-- Two refusals of one number are one. Assumes nothing.
use Prim.Native.Nat.{ℕ}
use mathlib.Core.Path.{◌≡◌, refl, sym, ap, ◌∙◌}
use lib.Dec.{eqb}
use Rattle.std.specs.Prelude.{Option, None, Some, if◌then◌else◌}
use Rattle.block.specs.Refusals.{number}
use Rattle.block.specs.declared.refused.Refusal.{Refusal}
use Rattle.block.specs.declared.refused.Refusal.TheVariants.{NoPlan, NotSound, UnknownCode, WrongArgument, Already, LinkDown, Pending, Annulled, ExitRoute, EntryRoute, Bilc, Oriented, Occupied, Reminder, OtherRoute, Bslg, Bslb, NoForm, OutOfRange, MalformedSlot, ShortRoom}

-- the refusal of a number
abbrev numbered : ℕ → Option Refusal
numbered n =
    if eqb n 1 then Some NoPlan else
    if eqb n 2 then Some NotSound else
    if eqb n 3 then Some UnknownCode else
    if eqb n 4 then Some WrongArgument else
    if eqb n 5 then Some Already else
    if eqb n 6 then Some LinkDown else
    if eqb n 7 then Some Pending else
    if eqb n 8 then Some Annulled else
    if eqb n 9 then Some ExitRoute else
    if eqb n 10 then Some EntryRoute else
    if eqb n 11 then Some Bilc else
    if eqb n 12 then Some Oriented else
    if eqb n 13 then Some Occupied else
    if eqb n 14 then Some Reminder else
    if eqb n 15 then Some OtherRoute else
    if eqb n 16 then Some Bslg else
    if eqb n 17 then Some Bslb else
    if eqb n 20 then Some NoForm else
    if eqb n 21 then Some OutOfRange else
    if eqb n 22 then Some MalformedSlot else
    if eqb n 24 then Some ShortRoom else
    None

its_own : (r : Refusal) → numbered (number r) ≡ Some r
its_own NoPlan = refl
its_own NotSound = refl
its_own UnknownCode = refl
its_own WrongArgument = refl
its_own Already = refl
its_own LinkDown = refl
its_own Pending = refl
its_own Annulled = refl
its_own ExitRoute = refl
its_own EntryRoute = refl
its_own Bilc = refl
its_own Oriented = refl
its_own Occupied = refl
its_own Reminder = refl
its_own OtherRoute = refl
its_own Bslg = refl
its_own Bslb = refl
its_own NoForm = refl
its_own OutOfRange = refl
its_own MalformedSlot = refl
its_own ShortRoom = refl

pub one_number : (a b : Refusal) → number a ≡ number b → a ≡ b
one_number a b e = let same : Some a ≡ Some b = sym (its_own a) ∙ ap numbered e ∙ its_own b in cc
