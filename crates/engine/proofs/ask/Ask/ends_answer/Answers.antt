use mathlib.Core.Path.{sym}
use borrow.Author.Tests.{lt-ltb}
use Rattle.rules.proofs.ReadingSteps.{hold_end}
use Rattle.engine.proofs.ask.Ask.ends_answer.Goals as goal

pub returns-then-self-lt-READING : goal.returns-then-self-lt-READING
returns-then-self-lt-READING c = rw (c.if-not-on.true, lt-ltb _ _ c.if-self-lt-READING.true) (sym (hold_end _ _ _ c.if-self-lt-READING.true))
