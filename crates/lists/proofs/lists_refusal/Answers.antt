use mathlib.Core.Path.{refl, sym, ap, ◌∙◌}
use borrow.Author.Rules.{rules}
use Rattle.block.specs.Refusals.{told}
use Rattle.block.specs.declared.refused.Refusal.TheVariants.{OutOfRange}
use Rattle.block.proofs.Told.{not_accepted}
use Rattle.records.specs.InBytes.{events_in, readings_in}
use Rattle.lists.proofs.RightLists.{unless_is, refused_for_events, refused_later}
use Rattle.lists.proofs.lists_refusal.Goals as goal

pub returns-in_err-events_refusal : goal.returns-in_err-events_refusal
returns-in_err-events_refusal c =
    let a = c.args in
    let first = refused_for_events a.plan (events_in a.events.now) (readings_in a.readings.now) a.length c.in_err-events_refusal.ensures (not_accepted _) in
    search rules

pub returns : goal.returns
returns c =
    let a = c.args in
    let others = refused_later a.plan (events_in a.events.now) (readings_in a.readings.now) a.length c.in_ok-events_refusal.ensures refl in
    ap told c.refuse_if.ensures ∙ unless_is OutOfRange _ ∙ sym (others ∙ rw (sym c.listed_twice-once.ensures, sym c.readings_in_range-readable.ensures))
