-- Byte by byte: each is what the call for it ensures, of what the words say. Assumes nothing.
use Prim.Native.Nat.{ℕ, ◌/◌, ◌%◌}
use mathlib.Core.Path.{◌≡◌, refl, ap, ap₂, ◌∙◌}
use mathlib.Core.List.{List, ◌∷◌}
use mathlib.Core.Bool.{Bool, true, false}
use Rattle.std.specs.Int.{from_bool}
use lib.ListN.{get_or}
use Rattle.words.specs.Words.{flag}
use Rattle.block.specs.declared.line.Direction.TheVariants.{TowardsA, TowardsB}
use Rattle.rulebook.specs.Situation.{Station, held}
use Rattle.situation.specs.Packed.{unpacked}
use Rattle.block.specs.Codes.{code, orientation_code, annulment_code, route_code}
use Rattle.forms.specs.declared.Letters.{Letters}
use Rattle.records.specs.Situation.{bits, field_of, codes_of}
use Rattle.records.specs.InBytes.{situation_bytes}
use Rattle.situations.proofs.record_of.Goals as goal

-- a list that begins with the same byte, and goes on with the same bytes
infixr 20 ◌then◌
◌then◌ : {a b : ℕ} {s t : List ℕ} → a ≡ b → s ≡ t → (a ∷ s) ≡ (b ∷ t)
e then f = ap₂ ◌∷◌ e f

as_flag : (v : Bool) → from_bool v ≡ flag v
as_flag true = refl
as_flag false = refl

pub returns : goal.returns
unfolding situation_bytes codes_of
returns c =
    let x = unpacked c.args.x in
    let letters = c.letters_of-letters.ensures in
    let heldb : c.held.result ≡ held x TowardsB = c.held.ensures in
    let helda : c.held-2.result ≡ held x TowardsA = c.held-2.ensures in
    ap (λ (m : Letters). m.first) letters then ap (λ (m : Letters). m.second) letters then
    (c.from.ensures ∙ as_flag _ ∙ ap flag c.linked.ensures) then
    (c.from-2.ensures ∙ ap orientation_code (c.orientation.ensures ∙ ap (λ (t : Station). t.orientation) c.own-own.ensures)) then
    (c.from-3.ensures ∙ ap orientation_code (c.orientation-2.ensures ∙ ap (λ (t : Station). t.orientation) c.other-other.ensures)) then
    (c.from-4.ensures ∙ ap annulment_code (c.annulment.ensures ∙ ap (λ (t : Station). t.annulment) c.own-own.ensures)) then
    (c.from-5.ensures ∙ ap annulment_code (c.annulment-2.ensures ∙ ap (λ (t : Station). t.annulment) c.other-other.ensures)) then
    (c.from-6.ensures ∙ ap route_code (c.exit_route.ensures ∙ ap (λ (t : Station). t.exit) c.own-own.ensures)) then
    (c.from-7.ensures ∙ ap route_code (c.exit_route-2.ensures ∙ ap (λ (t : Station). t.exit) c.other-other.ensures)) then
    (c.from-8.ensures ∙ as_flag _ ∙ ap flag (c.has_entry.ensures ∙ ap (λ (t : Station). t.entry) c.own-own.ensures)) then
    (c.from-9.ensures ∙ as_flag _ ∙ ap flag (c.has_entry-2.ensures ∙ ap (λ (t : Station). t.entry) c.other-other.ensures)) then
    (c.from-10.ensures ∙ ap₂ code c.asks.ensures c.other_asks.ensures) then
    (c.bits.ensures ∙ ap₂ bits (c.has_bilc.ensures ∙ ap (λ (t : Station). t.bilc) c.own-own.ensures) (c.has_bilc-2.ensures ∙ ap (λ (t : Station). t.bilc) c.other-other.ensures)) then
    (c.bits-2.ensures ∙ ap₂ bits (c.has_bslg.ensures ∙ ap (λ (t : Station). t.bslg) c.own-own.ensures) (c.has_bslg-2.ensures ∙ ap (λ (t : Station). t.bslg) c.other-other.ensures)) then
    (c.bits-3.ensures ∙ ap₂ bits (c.has_reminder.ensures ∙ ap (λ (t : Station). t.reminder) c.own-own.ensures) (c.has_reminder-2.ensures ∙ ap (λ (t : Station). t.reminder) c.other-other.ensures)) then
    ap (λ (t : List ℕ). get_or t 0 0) c.to_le_bytes-occupied.ensures then
    ap (λ (t : List ℕ). get_or t 1 0) c.to_le_bytes-occupied.ensures then
    (ap (λ (t : List ℕ). get_or t 0 0) c.to_le_bytes-heldb.ensures ∙ ap (λ (m : ℕ). field_of m % 256) heldb) then
    (ap (λ (t : List ℕ). get_or t 1 0) c.to_le_bytes-heldb.ensures ∙ ap (λ (m : ℕ). field_of m / 256 % 256) heldb) then
    (ap (λ (t : List ℕ). get_or t 0 0) c.to_le_bytes-helda.ensures ∙ ap (λ (m : ℕ). field_of m % 256) helda) then
    (ap (λ (t : List ℕ). get_or t 1 0) c.to_le_bytes-helda.ensures ∙ ap (λ (m : ℕ). field_of m / 256 % 256) helda) then
    (c.from-11.ensures ∙ as_flag _ ∙ ap flag c.marked.ensures) then
    c.count.ensures then refl
