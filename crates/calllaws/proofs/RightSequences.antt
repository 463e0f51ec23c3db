-- The key as sequences of events is exactly the right sequences, each once. Assumes nothing.
use Prim.Native.Nat.{ℕ, zero, suc, ◌≤◌, ◌<◌}
use mathlib.Core.Path.{◌≡◌, refl, sym, ap, subst, ◌∙◌}
use mathlib.Core.Bool.{Bool, true, not}
use mathlib.Core.List.{List, [], ◌∷◌, Memᴰ}
use native.Mathlib.Omega.{arith}
use lib.ListN.{length, get_or}
use lib.Dec.{T}
use Rattle.keylaws.specs.Rules.{Word}
use Rattle.keylaws.specs.Key.{reached, Accepted, Answer}
use Rattle.keylaws.proofs.Among.{among_at, in_map, of_map}
use Rattle.block.specs.declared.event.Event.{Event}
use Rattle.rulebook.specs.Situation.{Kept}
use Rattle.rulebook.specs.Apply.{stepped, Outcome, along, at_the_end}
use Rattle.rulebook.proofs.StepsAgree.{steps_agree}
use Rattle.rules.specs.RulesOf.{all_hold}
use Rattle.lists.proofs.RightLists.{ListsRight, lists_right}
use Rattle.paper.specs.Question.{Question}
use Rattle.paper.specs.Refusal.{refusal_of}
use Rattle.paper.proofs.Accepted as paper
use Rattle.keys.specs.Key.{rules, key_of}
use Rattle.keys.proofs.KeyOfAQuestion.{exactly_the_answers, in_order, each_once, extension_later}
use Rattle.calllaws.specs.Answers.{events_of, events_in_key, outcomes, AllAccepted, Right}
use Rattle.calllaws.specs.Laws.{Complete}
use Rattle.calllaws.proofs.EventsApart.{permitted_events, places, known_by_events}

module _ (q : Question) where
  abbrev steps : Kept → Word → List Outcome
  steps x w = along (stepped q.plan) x (events_of q w)

  -- ---- an answer's turns are the outcomes of its events
  turns_accepted : (w : Word) (x : Kept) → Accepted (rules q) x w → AllAccepted (steps x w)
  unfolding reached
  turns_accepted [] x a = tt
  turns_accepted (p ∷ w) x a = (a 0 (omega arith), turns_accepted w ((rules q).next x p) (λ i h. a (suc i) (omega arith)))

  pub accepted_turns : (w : Word) (x : Kept) → AllAccepted (steps x w) → Accepted (rules q) x w
  unfolding reached
  accepted_turns [] x a i h = absurd (omega arith)
  accepted_turns (p ∷ w) x a zero h = a.0
  accepted_turns (p ∷ w) x a (suc i) h = accepted_turns w ((rules q).next x p) a.1 i (omega arith)

  pub reached_at_the_end : (w : Word) (x : Kept) → reached (rules q) x w ≡ at_the_end x (steps x w)
  unfolding reached
  reached_at_the_end [] x = refl
  reached_at_the_end (p ∷ w) x = reached_at_the_end w ((rules q).next x p)

  same_length : (w : Word) → length (events_of q w) ≡ length w
  same_length [] = refl
  same_length (p ∷ w) = ap suc (same_length w)

  module _ (right : refusal_of q ≡ 0) where
    ok : paper.Accepted q
    ok = paper.accepted q right

    lists : ListsRight q.plan q.events q.readings q.length
    lists = lists_right q.plan q.events q.readings q.length ok.lists

    pub agree : (w : Word) → steps q.situation w ≡ outcomes q (events_of q w)
    agree w = steps_agree q.plan ok.plan q.situation ok.situation (events_of q w)

    holds_at : List Outcome → Type 0
    holds_at os = all_hold q.plan q.readings (at_the_end q.situation os) ≡ true

    answer_is_right : (w : Word) → Answer (rules q) q.length q.situation w → Right q (events_of q w)
    unfolding holds_at
    answer_is_right w a =
        record {
          short = omega (arith, same_length w, a.short);
          permitted = permitted_events q w a.permitted;
          accepted = subst AllAccepted (agree w) (turns_accepted w q.situation a.accepted);
          readings = subst holds_at (agree w) (ap (all_hold q.plan q.readings) (sym (reached_at_the_end w q.situation)) ∙ a.ends);
        }

    right_is_answer : (w : Word) → ((i : ℕ) → i < length w → (1 ≤ get_or w i 0) × (get_or w i 0 ≤ length q.events)) → Right q (events_of q w) → Answer (rules q) q.length q.situation w
    unfolding holds_at
    right_is_answer w places r =
        record {
          short = omega (arith, same_length w, r.short);
          permitted = places;
          accepted = accepted_turns w q.situation (subst AllAccepted (sym (agree w)) r.accepted);
          ends = ap (all_hold q.plan q.readings) (reached_at_the_end w q.situation) ∙ subst holds_at (sym (agree w)) r.readings;
        }

    -- ---- exactly the right sequences
    in_key_is_right : (events : List Event) → Memᴰ events (events_in_key q) → Right q events
    in_key_is_right events m =
        let r = of_map (events_of q) events (key_of q) m in
        subst (Right q) (sym r.1) (answer_is_right r.0 ((exactly_the_answers q r.0).0 r.2))

    right_is_in_key : (events : List Event) → Right q events → Memᴰ events (events_in_key q)
    right_is_in_key events h =
        let r = places q events h.permitted in
        let w : Word = r.0 in
        let a = right_is_answer w r.2 (subst (Right q) (sym r.1) h) in
        subst (λ (es : List Event). Memᴰ es (events_in_key q)) r.1 (in_map (events_of q) w (key_of q) ((exactly_the_answers q w).1 a))

    in_place : (i : ℕ) → i < length (key_of q) → (j : ℕ) → j < length (get_or (key_of q) i []) → (1 ≤ get_or (get_or (key_of q) i []) j 0) × (get_or (get_or (key_of q) i []) j 0 ≤ length q.events)
    in_place i h = ((exactly_the_answers q (get_or (key_of q) i [])).0 (among_at (key_of q) i h)).permitted

    pub complete : Complete q
    complete =
        record {
          exactly = λ events. (in_key_is_right events, right_is_in_key events);
          once = λ i j h k e.
              each_once q i j h k
              (known_by_events q (subst (λ (v : Bool). T (not v)) (sym lists.once) tt) (get_or (key_of q) i []) (get_or (key_of q) j []) (in_place i h) (in_place j k) e);
          in_order = in_order q;
          extensions_later = extension_later q;
        }
