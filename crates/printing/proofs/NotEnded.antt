-- The text has ended where the code has no position.
use Rattle.std.specs.Prelude.{Option, None, Some}
use Rattle.std.specs.Option.{is_some}
use Rattle.std.proofs.Common.{◌≡◌, true, false, refl}
use Rattle.keylaws.proofs.Tests.{never}
use Rattle.printing.specs.Pieces.{progress_of}
use Rattle.printing.specs.declared.Position.{Position}

pub not_ended : (p : Option Position) → is_some p ≡ true → (progress_of p).ended ≡ false
not_ended None h = absurd (never false h refl)
not_ended (Some at) h = refl

pub has_ended : (p : Option Position) → is_some p ≡ false → (progress_of p).ended ≡ true
has_ended None h = refl
has_ended (Some at) h = absurd (never true refl h)
