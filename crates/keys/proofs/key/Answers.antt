use Rattle.keys.proofs.RefusedCalls.{key_refused}
use borrow.Author.Rules.{rules}
use Rattle.keys.proofs.key.Goals as goal

pub returns-in_err-q : goal.returns-in_err-q
returns-in_err-q c = let told = key_refused _ _ c.in_err-q.ensures c.args.after.now c.args.room.now in search rules
