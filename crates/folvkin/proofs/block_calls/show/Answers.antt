-- The aspects towards B are written, then those towards A into the part after them. Assumes nothing.
use Prim.Native.Nat.{ℕ, ◌+◌}
use mathlib.Core.Path.{ap, ◌∙◌}
use mathlib.Core.List.{List, ◌++◌}
use lib.ListN.{drop}
use Rattle.situation.specs.Packed.{unpacked}
use Rattle.folvkin.proofs.AspectsWritten.{all_shown, onto}
use Rattle.folvkin.proofs.block_calls.show.Goals as goal

pub returns : goal.returns
returns c =
    let a = c.args in
    let n : ℕ = a.plan.sections in
    let room : List ℕ = a.room.now in
    let to-b = c.all_lights-to_b in
    let to-a = c.all_lights-to_a in
    let first = c.show_direction in
    let second = c.show_direction-2 in
    rw c.from-at.ensures
    (onto to-b.result to-a.result n room first.new.room second.new.room c.requires.1 first.ensures (rw c.from-at.ensures at second.ensures)
    ∙ ap (λ (l : List ℕ). l ++ drop (n + n) room)
    (all_shown a.plan (unpacked a.x) c.requires.0 to-b.result to-a.result to-b.ensures to-a.ensures))
