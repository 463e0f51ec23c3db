use mathlib.Core.Path.{ap, ◌∙◌}
use Rattle.rulebook.specs.Table.{section, Sobb, Cobb, Afbli, Afble, Dafbl, Bilc, Dilc, Bslg, BslgOff, Bslb, BslbOff, Reminder, ReminderOff, ExitNormal, ExitSpecial, ExitReleased, Entry, EntryReleased, Occupied, Freed, LinkLost, LinkRestored, Second}
use Rattle.rulebook.specs.Apply.{refuses, spot_named}
use Rattle.rulebook.specs.Editions.{kind_in_2024}
use Rattle.block.specs.declared.event.Spot.{Spot}
use Rattle.situation.specs.Packed.{unpacked}
use Rattle.events.proofs.EitherView.{bslb_refused, bslb_off_refused, occupied_refused, freed_refused}
use Rattle.events.proofs.ByCode.{refused_as, refused_seen, refused_unknown}
use borrow.Author.Rules.{rules}
use Rattle.events.specs.Codes.{kind_for}
use Rattle.events.proofs.refusal_in_2024.Goals as goal

pub returns-in-Sobb : goal.returns-in-Sobb
returns-in-Sobb c = let a = c.args in refused_as a.plan (unpacked a.x) a.event (c.in_ok-code.ensures ∙ ap kind_for c.in-Sobb.is) (refused_seen a.plan (unpacked a.x) a.event c.at_station-at.ensures c.seen_from-seen.ensures Sobb c.sobb_refusal.ensures)

pub returns-in-Cobb : goal.returns-in-Cobb
returns-in-Cobb c = let a = c.args in refused_as a.plan (unpacked a.x) a.event (c.in_ok-code.ensures ∙ ap kind_for c.in-Cobb.is) (refused_seen a.plan (unpacked a.x) a.event c.at_station-at.ensures c.seen_from-seen.ensures Cobb c.cobb_refusal.ensures)

pub returns-in-Afbli : goal.returns-in-Afbli
returns-in-Afbli c = let a = c.args in refused_as a.plan (unpacked a.x) a.event (c.in_ok-code.ensures ∙ ap kind_for c.in-Afbli.is) (refused_seen a.plan (unpacked a.x) a.event c.at_station-at.ensures c.seen_from-seen.ensures (kind_in_2024 Afbli) c.afbli_refusal.ensures)

pub returns-in-Afble : goal.returns-in-Afble
returns-in-Afble c = let a = c.args in refused_as a.plan (unpacked a.x) a.event (c.in_ok-code.ensures ∙ ap kind_for c.in-Afble.is) (refused_seen a.plan (unpacked a.x) a.event c.at_station-at.ensures c.seen_from-seen.ensures (kind_in_2024 Afble) c.afble_refusal.ensures)

pub returns-in-Dafbl : goal.returns-in-Dafbl
returns-in-Dafbl c = let a = c.args in refused_as a.plan (unpacked a.x) a.event (c.in_ok-code.ensures ∙ ap kind_for c.in-Dafbl.is) (refused_seen a.plan (unpacked a.x) a.event c.at_station-at.ensures c.seen_from-seen.ensures Dafbl c.dafbl_refusal.ensures)

pub returns-in-Bilc : goal.returns-in-Bilc
returns-in-Bilc c = let a = c.args in refused_as a.plan (unpacked a.x) a.event (c.in_ok-code.ensures ∙ ap kind_for c.in-Bilc.is) (refused_seen a.plan (unpacked a.x) a.event c.at_station-at.ensures c.seen_from-seen.ensures (kind_in_2024 Bilc) c.bilc_refusal.ensures)

pub returns-in-Dilc : goal.returns-in-Dilc
returns-in-Dilc c = let a = c.args in refused_as a.plan (unpacked a.x) a.event (c.in_ok-code.ensures ∙ ap kind_for c.in-Dilc.is) (refused_seen a.plan (unpacked a.x) a.event c.at_station-at.ensures c.seen_from-seen.ensures Dilc c.dilc_refusal.ensures)

pub returns-in-Bslg : goal.returns-in-Bslg
returns-in-Bslg c = let a = c.args in refused_as a.plan (unpacked a.x) a.event (c.in_ok-code.ensures ∙ ap kind_for c.in-Bslg.is) (refused_seen a.plan (unpacked a.x) a.event c.at_station-at.ensures c.seen_from-seen.ensures Bslg c.bslg_refusal.ensures)

pub returns-in-BslgOff : goal.returns-in-BslgOff
returns-in-BslgOff c = let a = c.args in refused_as a.plan (unpacked a.x) a.event (c.in_ok-code.ensures ∙ ap kind_for c.in-BslgOff.is) (refused_seen a.plan (unpacked a.x) a.event c.at_station-at.ensures c.seen_from-seen.ensures BslgOff c.bslg_off_refusal.ensures)

pub returns-in-Bslb : goal.returns-in-Bslb
returns-in-Bslb c = let a = c.args in refused_as a.plan (unpacked a.x) a.event (c.in_ok-code.ensures ∙ ap kind_for c.in-Bslb.is) (bslb_refused (spot_named a.plan section a.event.argument) (unpacked a.x) (c.bslb_refusal.ensures ∙ ap (λ (s : Spot). refuses (kind_in_2024 Bslb) s (unpacked a.x)) c.at_owner.ensures))

pub returns-in-BslbOff : goal.returns-in-BslbOff
returns-in-BslbOff c = let a = c.args in refused_as a.plan (unpacked a.x) a.event (c.in_ok-code.ensures ∙ ap kind_for c.in-BslbOff.is) (bslb_off_refused (spot_named a.plan section a.event.argument) (unpacked a.x) (c.bslb_off_refusal.ensures ∙ ap (λ (s : Spot). refuses BslbOff s (unpacked a.x)) c.at_owner-in-BslbOff.ensures))

pub returns-in-Reminder : goal.returns-in-Reminder
returns-in-Reminder c = let a = c.args in refused_as a.plan (unpacked a.x) a.event (c.in_ok-code.ensures ∙ ap kind_for c.in-Reminder.is) (refused_seen a.plan (unpacked a.x) a.event c.at_station-at.ensures c.seen_from-seen.ensures Reminder c.reminder_refusal.ensures)

pub returns-in-ReminderOff : goal.returns-in-ReminderOff
returns-in-ReminderOff c = let a = c.args in refused_as a.plan (unpacked a.x) a.event (c.in_ok-code.ensures ∙ ap kind_for c.in-ReminderOff.is) (refused_seen a.plan (unpacked a.x) a.event c.at_station-at.ensures c.seen_from-seen.ensures ReminderOff c.reminder_off_refusal.ensures)

pub returns-in-ExitNormal : goal.returns-in-ExitNormal
returns-in-ExitNormal c = let a = c.args in refused_as a.plan (unpacked a.x) a.event (c.in_ok-code.ensures ∙ ap kind_for c.in-ExitNormal.is) (refused_seen a.plan (unpacked a.x) a.event c.at_station-at.ensures c.seen_from-seen.ensures ExitNormal c.exit_normal_refusal.ensures)

pub returns-in-ExitSpecial : goal.returns-in-ExitSpecial
returns-in-ExitSpecial c = let a = c.args in refused_as a.plan (unpacked a.x) a.event (c.in_ok-code.ensures ∙ ap kind_for c.in-ExitSpecial.is) (refused_seen a.plan (unpacked a.x) a.event c.at_station-at.ensures c.seen_from-seen.ensures ExitSpecial c.exit_special_refusal.ensures)

pub returns-in-ExitReleased : goal.returns-in-ExitReleased
returns-in-ExitReleased c = let a = c.args in refused_as a.plan (unpacked a.x) a.event (c.in_ok-code.ensures ∙ ap kind_for c.in-ExitReleased.is) (refused_seen a.plan (unpacked a.x) a.event c.at_station-at.ensures c.seen_from-seen.ensures ExitReleased c.exit_released_refusal.ensures)

pub returns-in-Entry : goal.returns-in-Entry
returns-in-Entry c = let a = c.args in refused_as a.plan (unpacked a.x) a.event (c.in_ok-code.ensures ∙ ap kind_for c.in-Entry.is) (refused_seen a.plan (unpacked a.x) a.event c.at_station-at.ensures c.seen_from-seen.ensures Entry c.entry_refusal.ensures)

pub returns-in-EntryReleased : goal.returns-in-EntryReleased
returns-in-EntryReleased c = let a = c.args in refused_as a.plan (unpacked a.x) a.event (c.in_ok-code.ensures ∙ ap kind_for c.in-EntryReleased.is) (refused_seen a.plan (unpacked a.x) a.event c.at_station-at.ensures c.seen_from-seen.ensures EntryReleased c.entry_released_refusal.ensures)

pub returns-in-Occupied : goal.returns-in-Occupied
returns-in-Occupied c = let a = c.args in refused_as a.plan (unpacked a.x) a.event (c.in_ok-code.ensures ∙ ap kind_for c.in-Occupied.is) (occupied_refused (spot_named a.plan section a.event.argument) (unpacked a.x) (c.occupied_refusal.ensures ∙ ap (λ (s : Spot). refuses Occupied s (unpacked a.x)) c.at_owner-in-Occupied.ensures))

pub returns-in-Freed : goal.returns-in-Freed
returns-in-Freed c = let a = c.args in refused_as a.plan (unpacked a.x) a.event (c.in_ok-code.ensures ∙ ap kind_for c.in-Freed.is) (freed_refused (spot_named a.plan section a.event.argument) (unpacked a.x) (c.freed_refusal.ensures ∙ ap (λ (s : Spot). refuses Freed s (unpacked a.x)) c.at_owner-in-Freed.ensures))

pub returns-in-LinkLost : goal.returns-in-LinkLost
returns-in-LinkLost c = let a = c.args in refused_as a.plan (unpacked a.x) a.event (c.in_ok-code.ensures ∙ ap kind_for c.in-LinkLost.is) (refused_seen a.plan (unpacked a.x) a.event c.at_station-at.ensures c.seen_from-seen.ensures LinkLost c.link_lost_refusal.ensures)

pub returns-in-LinkRestored : goal.returns-in-LinkRestored
returns-in-LinkRestored c = let a = c.args in refused_as a.plan (unpacked a.x) a.event (c.in_ok-code.ensures ∙ ap kind_for c.in-LinkRestored.is) (refused_seen a.plan (unpacked a.x) a.event c.at_station-at.ensures c.seen_from-seen.ensures LinkRestored c.link_restored_refusal.ensures)

pub returns-in-Second : goal.returns-in-Second
returns-in-Second c = let a = c.args in refused_as a.plan (unpacked a.x) a.event (c.in_ok-code.ensures ∙ ap kind_for c.in-Second.is) (refused_seen a.plan (unpacked a.x) a.event c.at_station-at.ensures c.seen_from-seen.ensures Second c.second_refusal.ensures)

pub returns-in_err-code : goal.returns-in_err-code
returns-in_err-code c =
    let a = c.args in
    let u = refused_unknown a.plan (unpacked a.x) a.event c.in_err-code.ensures.0 in
    let n = c.in_err-code.ensures.1 in
    search rules
