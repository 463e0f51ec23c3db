-- Of events that are all right, each one is.
use Prim.Native.Nat.{ℕ, zero, suc, ◌-◌, ◌≤◌, ◌<◌}
use mathlib.Core.Path.{◌≡◌, sym, ap, ◌∙◌}
use mathlib.Core.Bool.{true}
use mathlib.Core.List.{List, [], ◌∷◌}
use native.Mathlib.Omega.{arith}
use lib.ListN.{length, get_or}
use Rattle.words.specs.Words.{◌and◌}
use Rattle.block.specs.declared.line.Plan.{Plan}
use Rattle.block.specs.declared.event.Event.{Event}
use Rattle.rulebook.specs.Apply.{event, known, argument_right, own_refusal, reached}
use Rattle.rulebook.specs.Situation.{Kept}
use Rattle.events.proofs.Steps.{judged_refusal, leads_on}
use Rattle.forms.proofs.Reading.{both}
use Rattle.records.specs.Lists.{event_at}
use Rattle.rules.specs.RulesOf.{tried}
use Rattle.rules.specs.Judged.{all_right}

abbrev Right : Plan → Event → Type 0
Right p e = (known e ≡ true) × (argument_right p e ≡ true)

each : (p : Plan) (events : List Event) (i : ℕ) → i < length events → all_right p events ≡ true → Right p (get_or events i (event 0 0))
unfolding all_right
each p [] i l h = absurd (omega arith)
each p (e ∷ rest) zero l h = both (known e) (argument_right p e) (both (known e and argument_right p e) _ h).0
each p (e ∷ rest) (suc i) l h = each p rest i (omega arith) (both (known e and argument_right p e) _ h).1

pub right_at : (p : Plan) (events : List Event) (place : ℕ) → 1 ≤ place → place ≤ length events → all_right p events ≡ true → Right p (event_at events place)
unfolding event_at
right_at p events place l h right = each p events (place - 1) (omega arith) right

-- what an event that is tried is refused for, and where it leads, as the code finds it
module _ (p : Plan) (x : Kept) (events : List Event) (place : ℕ) {e : Event} (is : e ≡ event_at events place) where
  pub tried_refusal : 1 ≤ place → place ≤ length events → all_right p events ≡ true → {r : ℕ} → r ≡ own_refusal p x e → r ≡ (tried p events x place).refusal
  tried_refusal l h right f =
      let each = right_at p events place l h right in
      f ∙ ap (own_refusal p x) is ∙ sym (judged_refusal p x (event_at events place) each.0 each.1)

  pub tried_next : (tried p events x place).refusal ≡ 0 → {y : Kept} → y ≡ reached p x e → y ≡ (tried p events x place).next
  tried_next accepted f = f ∙ ap (reached p x) is ∙ sym (leads_on p x (event_at events place) accepted)
