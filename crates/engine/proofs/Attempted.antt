-- Nothing here has to be believed. The event at a place, as the code tries it: whether it is accepted, and what the events from there on put into
-- the room. From the definitions.
use Rattle.std.specs.Prelude.{Result, Ok, Err, is_ok}
use Prim.Native.Nat.{ℕ, ◌+◌, ◌-◌, ◌/◌, ◌≤◌, ◌<◌}
use mathlib.Core.Path.{◌≡◌, refl, sym, ap, ◌∙◌}
use mathlib.Core.Bool.{Bool, true, false, true≢false, false≢true}
use mathlib.Core.List.{List, [], ◌∷◌}
use borrow.Author.Tests.{ne_eqb, eqb-true}
use native.Mathlib.Omega.{arith}
use lib.Dec.{eqb}
use lib.ListN.{length}
use Rattle.block.specs.declared.event.Event.{Event}
use Rattle.block.specs.declared.refused.Refusal.{Refusal}
use Rattle.block.specs.Refusals.{number, told}
use Rattle.block.proofs.Told.{not_accepted}
use Rattle.rulebook.specs.Situation.{Kept}
use Rattle.rulebook.specs.Apply.{own_refusal, reached}
use Rattle.rulebook.specs.Editions.{kind_in_2024, refusal_by, added_in_2012}
use Rattle.events.proofs.Added.{refused_first, then_2012, then_2024, own_is}
use Rattle.records.specs.Lists.{event_at}
use Rattle.records.specs.InBytes.{events_in}
use Rattle.records.proofs.InBytes.{events_counted}
use Rattle.rules.specs.RulesOf.{tried}
use Rattle.rules.proofs.EachEvent.{tried_refusal, tried_next}
use Rattle.keylaws.specs.Rules.{accepts}
use Rattle.keylaws.specs.Parts.{Part, handed}
use Rattle.keylaws.specs.Sheet.{grow, put}
use Rattle.keylaws.proofs.WalkSteps.{try_none, try_refused, try_full, try_on}
use Rattle.engine.specs.declared.ask.Ask.{Ask}
use Rattle.engine.specs.declared.ask.Node.{Node}
use Rattle.engine.specs.Walked.{rules_asked, ends, explored, attempted_from}
use Rattle.engine.proofs.OwnAnswer.{last_one, last_none}

-- ---- what an answer tells, by whether it is one
told_ok : {A : Type 0} (r : Result A Refusal) → is_ok r ≡ eqb (told r) 0
told_ok (Ok a) = refl
told_ok (Err r) = sym (ne_eqb (number r) 0 (not_accepted r))

told_accepted : {A : Type 0} (r : Result A Refusal) → is_ok r ≡ true → told r ≡ 0
told_accepted (Ok a) h = refl
told_accepted (Err r) h = absurd (false≢true h)

told_refused : {A : Type 0} (r : Result A Refusal) → is_ok r ≡ false → told r ≡ 0 → ⊥
told_refused (Ok a) h = absurd (true≢false h)
told_refused (Err r) h = not_accepted r

module _ (ask : Ask) (x : Kept) where
  abbrev events : List Event
  events = events_in ask.events.now

  -- what the events from a place on put into the room, if so many slots are written
  abbrev pub since : Node → ℕ → List ℕ → Bool → ℕ → Part
  since at count room on place = attempted_from ask x (record at { count = count }) room on place

  pub past_last : (at : Node) (count : ℕ) (room : List ℕ) (on : Bool) (place : ℕ) → length ask.events.now / 2 < place → handed room count false ≡ since at count room on place
  past_last at count room on place h = try_none _ _ _ _ _ _ _ _ (omega (arith, events_counted ask.events.now))

  module _ (place : ℕ) {e : Event} (is : e ≡ event_at events place) (first : 1 ≤ place) (last : place ≤ length ask.events.now / 2) where
    within : place ≤ length events
    within = omega (arith, events_counted ask.events.now)

    abbrev pub is_accepted : Bool
    is_accepted = accepts (rules_asked ask) x place

    -- ---- whether the event at a place is accepted
    by_own : {r : ℕ} → r ≡ own_refusal ask.plan x e → eqb r 0 ≡ is_accepted
    by_own h = ap (λ (n : ℕ). eqb n 0) (tried_refusal ask.plan x events place is first within ask.all_right h)

    module _ {A : Type 0} (r : Result A Refusal) (f : told r ≡ refusal_by kind_in_2024 ask.plan x e) where
      pub refused_in_2024 : is_ok r ≡ false → is_ok r ≡ is_accepted
      refused_in_2024 v = told_ok r ∙ by_own (own_is ask.plan x e f (refused_first ask.plan x e (told_refused r v)))

      pub accepted_in_2024 : is_ok r ≡ true → ask.plan.rules2012 ≡ false → true ≡ is_accepted
      accepted_in_2024 v new = by_own (own_is ask.plan x e f (then_2024 ask.plan x e (told_accepted r v) new))

      pub judged_in_2012 : is_ok r ≡ true → ask.plan.rules2012 ≡ true → {B : Type 0} (s : Result B Refusal) → told s ≡ added_in_2012 ask.plan x e → is_ok s ≡ is_accepted
      judged_in_2012 v old s g = told_ok s ∙ by_own (own_is ask.plan x e f (then_2012 ask.plan x e (told_accepted r v) old g))

    -- ---- what it puts into the room
    module _ (at : Node) (count : ℕ) (room : List ℕ) (on : Bool) where
      pub past_refused : false ≡ is_accepted → since at count room false (place + 1) ≡ since at count room on place
      past_refused r = try_refused _ _ _ _ _ _ _ _ _ within (sym r) refl

      -- accepted, it leads to y, whose answers these are
      module _ (accepted : true ≡ is_accepted) (y : Kept) (leads : y ≡ reached ask.plan x e) (slot : List ℕ) (grown : slot ≡ grow at.slot at.depth place) where
        abbrev node : Node
        node = record { slot = slot; depth = at.depth + 1; left = at.left - 1; on = on; count = count }

        next : y ≡ (tried ask.plan events x place).next
        next = tried_next ask.plan x events place is (eqb-true _ 0 (sym accepted)) leads

        module _ (r : List ℕ) (n : ℕ) (m : Bool) (led : handed r n m ≡ explored ask y node room) where
          pub full : m ≡ true → handed r n true ≡ since at count room on place
          full z = try_full _ _ _ _ _ _ _ _ y slot r n m within (sym accepted) next grown led z

          pub past : m ≡ false → since at n r false (place + 1) ≡ since at count room on place
          past z = try_on _ _ _ _ _ _ _ _ y slot r n m within (sym accepted) next grown led _ z refl

        -- with no length left after it, its own alone
        module _ (none_left : at.left - 1 ≡ 0) where
          pub one_led : true ≡ ends on ask y → (r : List ℕ) (n : ℕ) (m : Bool) → handed r n m ≡ put (handed room count false) (slot ∷ []) → handed r n m ≡ explored ask y node room
          one_led h r n m put = last_one (rules_asked ask) on ask.from (at.depth + 1) y slot room count _ none_left r n m (sym h) put

          pub none_led : false ≡ ends on ask y → handed room count false ≡ explored ask y node room
          none_led h = last_none (rules_asked ask) on ask.from (at.depth + 1) y slot room count _ none_left (sym h)
