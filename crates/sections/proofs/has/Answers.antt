-- A section that the word has no bit for is in no set. Assumes nothing.
use Prim.Native.Nat.{◌^◌, ◌%◌, ◌<◌}
use mathlib.Core.Path.{sym, ap, ◌∙◌}
use borrow.Author.Tests.{le-ltb}
use lib.Dec.{eqb}
use borrow.Author.Rules.{rules}
use Rattle.sections.proofs.SetLaws.{nothing_over}
use Rattle.sections.proofs.has.Goals as goal

pub returns-else-k-lt64 : goal.returns-else-k-lt64
returns-else-k-lt64 c =
    let fits : c.args.m < 2 ^ 64 = search rules in
    le-ltb c.args.k 64 c.if-k-lt64.false ∙ sym (ap (λ n. eqb (n % 2) 1) (nothing_over c.args.m 64 c.args.k c.if-k-lt64.false fits))
