-- An arm of the code's match is the kind of the table that has its code; a code that no arm has is no kind. Assumes nothing.
use Prim.Native.Nat.{ℕ}
use mathlib.Core.Path.{◌≡◌, refl, sym, ap, ◌∙◌}
use Rattle.rulebook.specs.Situation.{Situation, Kept, seen_from, kept_from}
use Rattle.rulebook.specs.Table.{Kind, station, unknown, kind_of}
use Rattle.rulebook.specs.Apply.{refuses, leads, refusal_at, led_at, spot_named, reached}
use Rattle.rulebook.specs.Editions.{kind_in_2024, refusal_by}
use Rattle.block.specs.declared.line.Plan.{Plan}
use Rattle.block.specs.declared.line.Name.{Name}
use Rattle.block.specs.declared.line.Name.TheVariants.{StationA, StationB}
use Rattle.block.specs.declared.event.Event.{Event}
use Rattle.block.specs.declared.event.Spot.{Spot}
use Rattle.rulebook.proofs.Settled.{stays}

module _ (p : Plan) (x : Kept) (e : Event) where
  -- the spot of an event whose argument names this
  abbrev at : ℕ → Spot
  at names = spot_named p names e.argument

  -- of a kind of the table
  abbrev refusal_of : Kind → ℕ
  refusal_of k = refusal_at (kind_in_2024 k) (at k.argument) x

  abbrev led_of : Kind → Kept
  led_of k = led_at k (at k.argument) x

  module _ {k : Kind} (is : kind_of e.code ≡ k) where
    pub refused_as : {r : ℕ} → r ≡ refusal_of k → r ≡ refusal_by kind_in_2024 p x e
    refused_as h = h ∙ ap refusal_of (sym is)

    pub led_as : {z : Kept} → z ≡ led_of k → z ≡ reached p x e
    led_as h = h ∙ ap led_of (sym is)

  -- as own sees it
  module _ {s : Spot} {y : Situation} (here : s ≡ at station) (seen : y ≡ seen_from s.own x) (k : Kind) where
    pub refused_seen : {r : ℕ} → r ≡ refuses k s y → r ≡ refusal_at k (at station) x
    unfolding refusal_at
    refused_seen h = h ∙ ap (refuses k s) seen ∙ ap (λ (t : Spot). refuses k t (seen_from t.own x)) here

    pub led_seen : {z w : Situation} → z ≡ leads k s y → w ≡ kept_from s.own z → w ≡ led_at k (at station) x
    unfolding led_at
    led_seen h g = g ∙ ap (kept_from s.own) (h ∙ ap (leads k s) seen) ∙ ap (λ (t : Spot). kept_from t.own (leads k t (seen_from t.own x))) here

-- ---- a code that the table does not have
there_and_back : (s : Name) (x : Kept) → x ≡ kept_from s (seen_from s x)
there_and_back StationA x = refl
there_and_back StationB x = refl

module _ (p : Plan) (x : Kept) (e : Event) (none : kind_of e.code ≡ unknown) where
  abbrev of_kind : Kind → Spot
  of_kind k = spot_named p k.argument e.argument

  pub refused_unknown : 3 ≡ refusal_by kind_in_2024 p x e
  unfolding refusal_at
  refused_unknown = sym (ap (λ (k : Kind). refusal_at (kind_in_2024 k) (of_kind k) x) none)

  pub led_unknown : x ≡ reached p x e
  unfolding led_at
  led_unknown =
      let own = (of_kind unknown).own in
      there_and_back own x ∙ ap (kept_from own) (stays (seen_from own x) refl refl) ∙ sym (ap (λ (k : Kind). led_at k (of_kind k) x) none)
