use mathlib.Core.Path.{ap, ◌∙◌}
use Rattle.rulebook.specs.Table.{section, Sobb, Cobb, Afbli, Afble, Dafbl, Bilc, Dilc, Bslg, BslgOff, Reminder, ReminderOff, ExitNormal, ExitSpecial, ExitReleased, Entry, EntryReleased, Freed, LinkLost, LinkRestored, Second}
use Rattle.rulebook.specs.Apply.{leads, spot_named}
use Rattle.block.specs.declared.event.Spot.{Spot}
use Rattle.situation.specs.Packed.{unpacked}
use Rattle.events.proofs.EitherView.{bslb_led, bslb_off_led, freed_led}
use Rattle.events.proofs.ByCode.{led_as, led_seen, led_unknown}
use borrow.Author.Rules.{rules}
use Rattle.events.specs.Codes.{kind_for}
use Rattle.events.proofs.next.Goals as goal

pub returns-in-Sobb : goal.returns-in-Sobb
returns-in-Sobb c = let a = c.args in led_as a.plan (unpacked a.x) a.event (c.in-Some.ensures ∙ ap kind_for c.in-Sobb.is) (led_seen a.plan (unpacked a.x) a.event c.at_station-at.ensures c.seen_from-seen.ensures Sobb c.sobb.ensures c.seen_from.ensures)

pub returns-in-Cobb : goal.returns-in-Cobb
returns-in-Cobb c = let a = c.args in led_as a.plan (unpacked a.x) a.event (c.in-Some.ensures ∙ ap kind_for c.in-Cobb.is) (led_seen a.plan (unpacked a.x) a.event c.at_station-at.ensures c.seen_from-seen.ensures Cobb c.cobb.ensures c.seen_from-in-Cobb.ensures)

pub returns-in-Afbli : goal.returns-in-Afbli
returns-in-Afbli c = let a = c.args in led_as a.plan (unpacked a.x) a.event (c.in-Some.ensures ∙ ap kind_for c.in-Afbli.is) (led_seen a.plan (unpacked a.x) a.event c.at_station-at.ensures c.seen_from-seen.ensures Afbli c.afbli.ensures c.seen_from-in-Afbli.ensures)

pub returns-in-Afble : goal.returns-in-Afble
returns-in-Afble c = let a = c.args in led_as a.plan (unpacked a.x) a.event (c.in-Some.ensures ∙ ap kind_for c.in-Afble.is) (led_seen a.plan (unpacked a.x) a.event c.at_station-at.ensures c.seen_from-seen.ensures Afble c.afble.ensures c.seen_from-in-Afble.ensures)

pub returns-in-Dafbl : goal.returns-in-Dafbl
returns-in-Dafbl c = let a = c.args in led_as a.plan (unpacked a.x) a.event (c.in-Some.ensures ∙ ap kind_for c.in-Dafbl.is) (led_seen a.plan (unpacked a.x) a.event c.at_station-at.ensures c.seen_from-seen.ensures Dafbl c.dafbl.ensures c.seen_from-in-Dafbl.ensures)

pub returns-in-Bilc : goal.returns-in-Bilc
returns-in-Bilc c = let a = c.args in led_as a.plan (unpacked a.x) a.event (c.in-Some.ensures ∙ ap kind_for c.in-Bilc.is) (led_seen a.plan (unpacked a.x) a.event c.at_station-at.ensures c.seen_from-seen.ensures Bilc c.bilc.ensures c.seen_from-in-Bilc.ensures)

pub returns-in-Dilc : goal.returns-in-Dilc
returns-in-Dilc c = let a = c.args in led_as a.plan (unpacked a.x) a.event (c.in-Some.ensures ∙ ap kind_for c.in-Dilc.is) (led_seen a.plan (unpacked a.x) a.event c.at_station-at.ensures c.seen_from-seen.ensures Dilc c.dilc.ensures c.seen_from-in-Dilc.ensures)

pub returns-in-Bslg : goal.returns-in-Bslg
returns-in-Bslg c = let a = c.args in led_as a.plan (unpacked a.x) a.event (c.in-Some.ensures ∙ ap kind_for c.in-Bslg.is) (led_seen a.plan (unpacked a.x) a.event c.at_station-at.ensures c.seen_from-seen.ensures Bslg c.bslg.ensures c.seen_from-in-Bslg.ensures)

pub returns-in-BslgOff : goal.returns-in-BslgOff
returns-in-BslgOff c = let a = c.args in led_as a.plan (unpacked a.x) a.event (c.in-Some.ensures ∙ ap kind_for c.in-BslgOff.is) (led_seen a.plan (unpacked a.x) a.event c.at_station-at.ensures c.seen_from-seen.ensures BslgOff c.bslg_off.ensures c.seen_from-in-BslgOff.ensures)

pub returns-in-Bslb : goal.returns-in-Bslb
returns-in-Bslb c = let a = c.args in led_as a.plan (unpacked a.x) a.event (c.in-Some.ensures ∙ ap kind_for c.in-Bslb.is) (bslb_led (spot_named a.plan section a.event.argument) (unpacked a.x) (search rules))

pub returns-in-BslbOff : goal.returns-in-BslbOff
returns-in-BslbOff c = let a = c.args in led_as a.plan (unpacked a.x) a.event (c.in-Some.ensures ∙ ap kind_for c.in-BslbOff.is) (bslb_off_led (spot_named a.plan section a.event.argument) (unpacked a.x) (search rules))

pub returns-in-Reminder : goal.returns-in-Reminder
returns-in-Reminder c = let a = c.args in led_as a.plan (unpacked a.x) a.event (c.in-Some.ensures ∙ ap kind_for c.in-Reminder.is) (led_seen a.plan (unpacked a.x) a.event c.at_station-at.ensures c.seen_from-seen.ensures Reminder c.reminder.ensures c.seen_from-in-Reminder.ensures)

pub returns-in-ReminderOff : goal.returns-in-ReminderOff
returns-in-ReminderOff c = let a = c.args in led_as a.plan (unpacked a.x) a.event (c.in-Some.ensures ∙ ap kind_for c.in-ReminderOff.is) (led_seen a.plan (unpacked a.x) a.event c.at_station-at.ensures c.seen_from-seen.ensures ReminderOff c.reminder_off.ensures c.seen_from-in-ReminderOff.ensures)

pub returns-in-ExitNormal : goal.returns-in-ExitNormal
returns-in-ExitNormal c = let a = c.args in led_as a.plan (unpacked a.x) a.event (c.in-Some.ensures ∙ ap kind_for c.in-ExitNormal.is) (led_seen a.plan (unpacked a.x) a.event c.at_station-at.ensures c.seen_from-seen.ensures ExitNormal c.exit_normal.ensures c.seen_from-in-ExitNormal.ensures)

pub returns-in-ExitSpecial : goal.returns-in-ExitSpecial
returns-in-ExitSpecial c = let a = c.args in led_as a.plan (unpacked a.x) a.event (c.in-Some.ensures ∙ ap kind_for c.in-ExitSpecial.is) (led_seen a.plan (unpacked a.x) a.event c.at_station-at.ensures c.seen_from-seen.ensures ExitSpecial c.exit_special.ensures c.seen_from-in-ExitSpecial.ensures)

pub returns-in-ExitReleased : goal.returns-in-ExitReleased
returns-in-ExitReleased c = let a = c.args in led_as a.plan (unpacked a.x) a.event (c.in-Some.ensures ∙ ap kind_for c.in-ExitReleased.is) (led_seen a.plan (unpacked a.x) a.event c.at_station-at.ensures c.seen_from-seen.ensures ExitReleased c.exit_released.ensures c.seen_from-in-ExitReleased.ensures)

pub returns-in-Entry : goal.returns-in-Entry
returns-in-Entry c = let a = c.args in led_as a.plan (unpacked a.x) a.event (c.in-Some.ensures ∙ ap kind_for c.in-Entry.is) (led_seen a.plan (unpacked a.x) a.event c.at_station-at.ensures c.seen_from-seen.ensures Entry c.entry.ensures c.seen_from-in-Entry.ensures)

pub returns-in-EntryReleased : goal.returns-in-EntryReleased
returns-in-EntryReleased c = let a = c.args in led_as a.plan (unpacked a.x) a.event (c.in-Some.ensures ∙ ap kind_for c.in-EntryReleased.is) (led_seen a.plan (unpacked a.x) a.event c.at_station-at.ensures c.seen_from-seen.ensures EntryReleased c.entry_released.ensures c.seen_from-in-EntryReleased.ensures)

pub returns-in-Freed : goal.returns-in-Freed
returns-in-Freed c = let a = c.args in led_as a.plan (unpacked a.x) a.event (c.in-Some.ensures ∙ ap kind_for c.in-Freed.is) (freed_led (spot_named a.plan section a.event.argument) (unpacked a.x) (c.freed.ensures ∙ ap (λ (s : Spot). leads Freed s (unpacked a.x)) c.at_owner-in-Freed.ensures))

pub returns-in-LinkLost : goal.returns-in-LinkLost
returns-in-LinkLost c = let a = c.args in led_as a.plan (unpacked a.x) a.event (c.in-Some.ensures ∙ ap kind_for c.in-LinkLost.is) (led_seen a.plan (unpacked a.x) a.event c.at_station-at.ensures c.seen_from-seen.ensures LinkLost c.link_lost.ensures c.seen_from-in-LinkLost.ensures)

pub returns-in-LinkRestored : goal.returns-in-LinkRestored
returns-in-LinkRestored c = let a = c.args in led_as a.plan (unpacked a.x) a.event (c.in-Some.ensures ∙ ap kind_for c.in-LinkRestored.is) (led_seen a.plan (unpacked a.x) a.event c.at_station-at.ensures c.seen_from-seen.ensures LinkRestored c.link_restored.ensures c.seen_from-in-LinkRestored.ensures)

pub returns-in-Second : goal.returns-in-Second
returns-in-Second c = let a = c.args in led_as a.plan (unpacked a.x) a.event (c.in-Some.ensures ∙ ap kind_for c.in-Second.is) (led_seen a.plan (unpacked a.x) a.event c.at_station-at.ensures c.seen_from-seen.ensures Second c.second.ensures c.seen_from-in-Second.ensures)

pub returns-in_default : goal.returns-in_default
returns-in_default c = let a = c.args in led_unknown a.plan (unpacked a.x) a.event c.in_default.ensures
