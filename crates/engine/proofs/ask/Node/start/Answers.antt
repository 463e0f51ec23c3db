use mathlib.Core.Path.{◌≡◌, refl, sym, ◌∙◌}
use lib.ListN.{get_or}
use Prim.Native.Nat.{◌+◌}
use Rattle.keylaws.specs.Walk.{aims, starts}
use Rattle.engine.proofs.ask.Node.start.Goals as goal
use Rattle.engine.proofs.ask.Node.start.Goals.{Joined-self, then-self, else-self}

aimed : (c : Joined-self) → c.if-self.on ≡ aims c.args.self.on (get_or c.args.from (c.args.self.depth + 1) 0)
unfolding aims
aimed c = elim c.if-self.branch [ then-self w ↦ rw (w.on-is, w.if-self.true, c.from-next.ensures) refl | else-self w ↦ rw (w.on-is, w.if-self.false) refl ]

pub returns-then-on-clause-on : goal.returns-then-on-clause-on
returns-then-on-clause-on c = aimed (goal.at.returns-then-on-clause-on c).Joined-self

pub returns-then-on-clause-place : goal.returns-then-on-clause-place
unfolding starts
returns-then-on-clause-place c = rw (sym (aimed (goal.at.returns-then-on-clause-place c).Joined-self) ∙ c.if-on.true) c.from-next.ensures

pub returns-else-on-clause-on : goal.returns-else-on-clause-on
returns-else-on-clause-on c = aimed (goal.at.returns-else-on-clause-on c).Joined-self

pub returns-else-on-clause-place : goal.returns-else-on-clause-place
unfolding starts
returns-else-on-clause-place c = rw (sym (aimed (goal.at.returns-else-on-clause-place c).Joined-self) ∙ c.if-on.false)
