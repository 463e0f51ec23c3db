use mathlib.Core.Path.{◌≡◌, refl}
use mathlib.Core.Bool.{Bool, true, false}
use lib.Dec.{leb}
use lib.ListN.{get_or}
use Rattle.words.specs.Words.{◌and◌}
use Rattle.records.specs.Situation.{in_range}
use Rattle.records.specs.InBytes.{codes_at}
use Rattle.situations.proofs.Record.in_range.Goals as goal

and_two : (a b c : Bool) → (a and (b and c)) ≡ (a and b and c)
and_two true b c = refl
and_two false b c = refl

pub returns-then-first : goal.returns-then-first
unfolding in_range codes_at
returns-then-first c =
    let s = c.args.self.now.bytes.now in
    let w = c.args.self.now.watch.now in
    rw (c.watch_in_range.ensures, c.if-first.true)
    (and_two (leb (get_or s 10 0) 1 and leb (get_or s 11 0) 2 and leb (get_or s 12 0) 3 and leb (get_or s 13 0) 3 and leb (get_or s 14 0) 3) (leb (get_or w 0 0) 1) (leb (get_or w 1 0) 10))

pub returns : goal.returns
unfolding in_range codes_at
returns c = rw c.if-first.false
