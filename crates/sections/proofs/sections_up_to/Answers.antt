-- From section 63 on a word holds nothing over n. Assumes nothing.
use Prim.Native.Nat.{ℕ, ◌+◌, ◌/◌, ◌^◌, ◌<◌}
use mathlib.Core.Path.{◌≡◌}
use native.Mathlib.Omega.{arith}
use borrow.Author.Rules.{rules}
use Rattle.sections.proofs.SetLaws.{nothing_over}
use Rattle.words.proofs.Tests.{and_true}
use Rattle.sections.proofs.sections_up_to.Goals as goal

pub returns-else-n-lt63 : goal.returns-else-n-lt63
returns-else-n-lt63 c =
    let m : ℕ = c.args.m in
    let n : ℕ = c.args.n in
    let fits : m < 2 ^ 64 = search rules in
    let over : m / 2 ^ (n + 1) ≡ 0 = nothing_over m 64 (n + 1) (omega arith) fits in
    rw (over, and_true, c.has-zero.ensures)
