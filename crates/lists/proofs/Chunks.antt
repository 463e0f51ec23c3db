-- The items of a list as the chunks of its bytes, one by one. Assumes nothing.
use Prim.Native.Nat.{ℕ, suc, ◌+◌, ◌/◌, ◌≤◌, ◌<◌}
use mathlib.Core.Path.{◌≡◌, refl, sym, ap, ◌∙◌}
use mathlib.Core.Bool.{Bool, true, false, ◌&&◌, ◌||◌}
use mathlib.Core.List.{List, [], ◌∷◌, map}
use native.Mathlib.Numerals.{add-one}
use native.Mathlib.Omega.{arith}
use lib.ListN.{length, get_or, drop, drop_of_length-le}
use lib.Seq.{drop-cons}
use lib.Dec.{eqb}
use lib.Pointwise.{pointwise}
use Rattle.std.specs.Prelude.{IsTrue, ◌↔◌}
use Rattle.std.specs.List.{list_any, list_all, AllPass}
use Rattle.std.proofs.lemmas.List.Sums.{AllPass-from_list_all, list_all-from_AllPass}
use Rattle.std.specs.Simd.{first_chunks}
use Rattle.words.specs.Words.{◌and◌, ◌or◌}
use Rattle.block.specs.declared.line.Plan.{Plan}
use Rattle.block.specs.declared.event.Event.{Event}
use Rattle.block.specs.declared.reading.Reading.{Reading}
use Rattle.rulebook.specs.Apply.{event}
use Rattle.signals.specs.Readings.{reading_in_range}
use Rattle.forms.proofs.Reading.{never, fails}
use Rattle.records.specs.InBytes.{events_in, readings_in}
use Rattle.lists.specs.Refusal.{event_refusal, events_refusal, listed, listed_twice, readings_in_range}
use Rattle.lists.proofs.RightLists.{first_refusal, next_refusal}

-- the event that two bytes are, and the reading that three are
abbrev pub one_event : List ℕ → Event
one_event bytes = event (get_or bytes 0 0) (get_or bytes 1 0)

abbrev pub one_reading : List ℕ → Reading
one_reading bytes = record { kind = get_or bytes 0 0; argument = get_or bytes 1 0; value = get_or bytes 2 0 }

pub events_chunked : (t : List ℕ) → events_in t ≡ map one_event (first_chunks 2 (length t / 2) t)
unfolding events_in
events_chunked [] = refl
events_chunked (c ∷ []) = refl
events_chunked (c ∷ a ∷ t) =
    let e : length (c ∷ a ∷ t) / 2 ≡ suc (length t / 2) = omega arith in
    rw e (ap (λ (items : List Event). event c a ∷ items) (events_chunked t))

pub readings_chunked : (t : List ℕ) → readings_in t ≡ map one_reading (first_chunks 3 (length t / 3) t)
unfolding readings_in
readings_chunked [] = refl
readings_chunked (k ∷ []) = refl
readings_chunked (k ∷ a ∷ []) = refl
readings_chunked (k ∷ a ∷ v ∷ t) =
    let e : length (k ∷ a ∷ v ∷ t) / 3 ≡ suc (length t / 3) = omega arith in
    rw e (ap (λ (items : List Reading). one_reading (k ∷ a ∷ v ∷ []) ∷ items) (readings_chunked t))

-- from place i on
abbrev pub events_from : List (List ℕ) → ℕ → List Event
events_from pairs i = map one_event (drop i pairs)

pub all_events : (t : List ℕ) (pairs : List (List ℕ)) → pairs ≡ first_chunks 2 (length t / 2) t → events_from pairs 0 ≡ events_in t
all_events t pairs e = ap (map one_event) e ∙ sym (events_chunked t)

pub events_left : (pairs : List (List ℕ)) (i : ℕ) → i < length pairs → events_from pairs i ≡ one_event (get_or pairs i []) ∷ events_from pairs (i + 1)
events_left pairs i h = rw (add-one, drop-cons pairs i [] h)

pub no_events_left : (pairs : List (List ℕ)) (i : ℕ) → length pairs ≤ i → events_from pairs i ≡ []
no_events_left pairs i h = ap (map one_event) (drop_of_length-le pairs {i = i} h)

module _ (p : Plan) (e : Event) (rest : List Event) {r : ℕ} (told : r ≡ event_refusal p e) where
  pub refused_at_first : (r ≡ 0 → ⊥) → events_refusal p (e ∷ rest) ≡ r
  unfolding events_refusal
  refused_at_first z = first_refusal (events_refusal p rest) told z

  pub refused_after : r ≡ 0 → events_refusal p (e ∷ rest) ≡ events_refusal p rest
  unfolding events_refusal
  refused_after z = next_refusal (events_refusal p rest) told z

pub none_refused : (p : Plan) → events_refusal p [] ≡ 0
unfolding events_refusal
none_refused p = refl

-- ---- an event among those after it
abbrev pub ArePairs : List (List ℕ) → Type 0
ArePairs [] = Unit {0}
ArePairs (y ∷ rest) = (length y ≡ 2) × ArePairs rest

pub chunks_are_pairs : (t : List ℕ) → ArePairs (first_chunks 2 (length t / 2) t)
chunks_are_pairs [] = tt
chunks_are_pairs (c ∷ []) = tt
chunks_are_pairs (c ∷ a ∷ t) =
    let e : length (c ∷ a ∷ t) / 2 ≡ suc (length t / 2) = omega arith in
    rw e (refl, chunks_are_pairs t)

abbrev pub same_bytes : List ℕ → List ℕ → Bool
same_bytes = pointwise eqb

same_pair : (y x : List ℕ) → length y ≡ 2 → length x ≡ 2 → same_bytes y x ≡ eqb (one_event y).code (one_event x).code and eqb (one_event y).argument (one_event x).argument
same_pair (c ∷ a ∷ []) (d ∷ b ∷ []) h k = by (eqb c d) (eqb a b)
  where
    by : (v w : Bool) → (v && (w && true)) ≡ v and w
    by false w = refl
    by true false = refl
    by true true = refl
same_pair [] x h k = absurd (omega arith)
same_pair (c ∷ []) x h k = absurd (omega arith)
same_pair (c ∷ a ∷ z ∷ y) x h k = absurd (omega arith)
same_pair (c ∷ a ∷ []) [] h k = absurd (omega arith)
same_pair (c ∷ a ∷ []) (d ∷ []) h k = absurd (omega arith)
same_pair (c ∷ a ∷ []) (d ∷ b ∷ z ∷ x) h k = absurd (omega arith)

or_is : (v w : Bool) → (v || w) ≡ v or w
or_is true w = refl
or_is false w = refl

contained_is_listed : (x : List ℕ) (after : List (List ℕ)) → length x ≡ 2 → ArePairs after → list_any (λ y. same_bytes y x) after ≡ listed (one_event x) (map one_event after)
unfolding listed
contained_is_listed x [] h p = refl
contained_is_listed x (y ∷ after) h p = rw (same_pair y x p.0 h, contained_is_listed x after h p.1) (or_is (eqb (one_event y).code (one_event x).code and eqb (one_event y).argument (one_event x).argument) (listed (one_event x) (map one_event after)))

pub twice_step : (x : List ℕ) (after : List (List ℕ)) → ArePairs (x ∷ after) → listed_twice (map one_event (x ∷ after)) ≡ list_any (λ y. same_bytes y x) after or listed_twice (map one_event after)
unfolding listed_twice
twice_step x after p = rw (contained_is_listed x after p.0 p.1)

pub none_twice : (pairs : List (List ℕ)) → length pairs ≡ 0 → listed_twice (map one_event pairs) ≡ false
unfolding listed_twice
none_twice [] h = refl
none_twice (x ∷ after) h = absurd (omega arith)

-- ---- readings
abbrev pub test : Plan → List ℕ → Bool
test p r = reading_in_range p (get_or r 0 0) (get_or r 1 0) (get_or r 2 0)

and_is : (v w : Bool) → v and w ≡ (v && w)
and_is true w = refl
and_is false w = refl

all_in_range : (p : Plan) (triples : List (List ℕ)) → readings_in_range p (map one_reading triples) ≡ list_all (test p) triples
unfolding readings_in_range
all_in_range p [] = refl
all_in_range p (r ∷ rest) = rw (all_in_range p rest) (and_is (test p r) (list_all (test p) rest))

pub in_range_where_all_pass : (p : Plan) (t : List ℕ) (triples : List (List ℕ)) (v : Bool) → triples ≡ first_chunks 3 (length t / 3) t
    → (IsTrue v ↔ AllPass (test p) triples) → v ≡ readings_in_range p (readings_in t)
in_range_where_all_pass p t triples v e each =
    by (list_all (test p) triples) refl ∙ sym (all_in_range p triples) ∙ ap (readings_in_range p) (ap (map one_reading) e ∙ sym (readings_chunked t))
  where
    by : (w : Bool) → list_all (test p) triples ≡ w → v ≡ w
    by true z = each.1 (AllPass-from_list_all (test p) triples z)
    by false z = fails v (λ y. never _ (list_all-from_AllPass (test p) triples (each.0 y)) z)
