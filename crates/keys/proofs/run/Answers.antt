use Rattle.keys.proofs.RefusedCalls.{run_refused}
use borrow.Author.Rules.{rules}
use Rattle.keys.proofs.run.Goals as goal

pub returns-in_err-q : goal.returns-in_err-q
returns-in_err-q c = let told = run_refused _ _ c.in_err-q.ensures c.args.slot.now in search rules
