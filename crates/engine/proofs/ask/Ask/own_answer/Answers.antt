use mathlib.Core.Path.{refl}
use Rattle.engine.proofs.OwnAnswer.{one_put, none_put}
use Rattle.engine.proofs.ask.Ask.own_answer.Goals as goal
use Rattle.engine.proofs.ask.Ask.own_answer.Goals.{else-not-at-via-then-not-at+else-holds, else-not-at-via-else-not-at}

pub returns-then-holds-clause-put : goal.returns-then-holds-clause-put
returns-then-holds-clause-put c = one_put _ _ _ _ _ _ (rw (c.if-not-at.true, ← c.holds.ensures, c.if-holds.true) refl) c.put_slot.ensures.put

pub returns-clause-put : goal.returns-clause-put
returns-clause-put c =
    none_put _ _ _ _ _ (elim c.else-not-at.branch [
      | else-not-at-via-then-not-at+else-holds w ↦ rw (w.if-not-at.true, ← w.holds.ensures, w.if-holds.false) refl
      | else-not-at-via-else-not-at w ↦ rw w.if-not-at.false refl
    ])
