-- The key of a question, over the real rules: every right sequence, once, in the stated order, with nothing else; fetched in parts, the parts joined are the same key; a candidate's slot is in it exactly if its run ends with all readings holding. The laws of keys over any rules, with the rules of the question.
use Rattle.std.specs.Prelude.{if◌then◌else◌}
use Prim.Native.Nat.{ℕ, ◌≤◌, ◌<◌}
use mathlib.Core.Path.{◌≡◌, refl, ap, ap₂}
use mathlib.Core.Logic.{◌↔◌}
use mathlib.Core.Bool.{Bool, true, false}
use mathlib.Core.List.{List, [], ◌∷◌, ◌++◌, map}
use native.Mathlib.Omega.{arith}
use lib.ListN.{length, get_or}
use borrow.Author.Tests.{le-leb}
use Rattle.keylaws.specs.Rules.{Word}
use Rattle.keylaws.specs.Key.{Answer, ◌among◌}
use Rattle.keylaws.specs.Order.{before}
use Rattle.keylaws.specs.Run.{Outcome, ended, run}
use Rattle.keylaws.specs.Slots.{slot_of, word_of, slots, is_slot}
use Rattle.keylaws.specs.Continuation.{from_start, is_continuation, comes_after, answers_after}
use Rattle.keylaws.specs.Parts.{part_after, last_slot, calls, joined, total, remain, Rooms}
use Rattle.keylaws.proofs.ExactlyTheAnswers as exact
use Rattle.keylaws.proofs.InOrderOnce as order
use Rattle.keylaws.proofs.AfterContinuation as after
use Rattle.keylaws.proofs.PartsJoined as parts
use Rattle.keylaws.proofs.CandidateInKey as candidate
use Rattle.keylaws.proofs.SlotsOfWords.{is_slot_of_word}
use Rattle.keylaws.proofs.Among.{of_map}
use Rattle.rules.specs.RulesOf.{name_told}
use Rattle.rules.proofs.RunNames.{unstopped}
use Rattle.paper.specs.Question.{Question}
use Rattle.keys.specs.Key.{Bounded, rules, key_of}
use Rattle.keys.specs.Calls.{Ran, given, part_of, told, not_run, slot_run}

module _ (q : Question) where
  -- a sequence is in the key exactly if it is an answer: up to the length, of permitted events, each accepted in its turn, every reading holds at the end
  pub exactly_the_answers : (w : Word) → (w among key_of q) ↔ Answer (rules q) q.length q.situation w
  exactly_the_answers = exact.exactly_the_answers (rules q) q.length q.situation

  -- the earlier of two stands before the later, so each is there once, and a sequence before its extensions
  pub in_order : (i j : ℕ) → i < j → j < length (key_of q) → before (get_or (key_of q) i []) (get_or (key_of q) j []) ≡ true
  in_order = order.increasing (rules q) q.length q.situation

  pub each_once : (i j : ℕ) → i < length (key_of q) → j < length (key_of q) → get_or (key_of q) i [] ≡ get_or (key_of q) j [] → i ≡ j
  each_once = order.each_once (rules q) q.length q.situation

  pub extension_later : (i j : ℕ) → i < length (key_of q) → j < length (key_of q) → (p : ℕ) (v : Word) → get_or (key_of q) j [] ≡ get_or (key_of q) i [] ++ (p ∷ v) → i < j
  extension_later = order.extension_later (rules q) q.length q.situation

  -- what a call may give: exactly the answers of the key that the order puts after its continuation
  pub exactly_those_after : (x : List ℕ) (w : Word) → (w among answers_after (rules q) q.length q.situation x) ↔ ((w among key_of q) × (comes_after x w ≡ true))
  exactly_those_after = after.exactly_those_after (rules q) q.length q.situation

  -- what a call gives that is not refused
  pub call_gives_part : (x room : List ℕ) → is_continuation (rules q).events q.length x ≡ true → 6 ≤ length room → part_of q x room ≡ given (part_after (rules q) q.length q.situation x room)
  unfolding part_of
  call_gives_part x room c h = rw (c, le-leb _ _ h) refl

  module _ (b : Bounded q) where
    -- the parts joined are the same key, byte for byte, and the total is its own length
    pub whole_key : (rooms : List (List ℕ)) → Rooms rooms → remain (calls (rules q) q.length q.situation from_start rooms) ≡ false
        → (joined (calls (rules q) q.length q.situation from_start rooms) ≡ slots (key_of q)) × (total (calls (rules q) q.length q.situation from_start rooms) ≡ length (key_of q))
    whole_key = parts.whole_key (rules q) q.length q.situation b.2

    -- no call of such a run is refused: where more remain, the last slot is a continuation
    pub last_slot_continues : (x room : List ℕ) → 6 ≤ length room → (part_after (rules q) q.length q.situation x room).more ≡ true
        → is_continuation (rules q).events q.length (last_slot (part_after (rules q) q.length q.situation x room)) ≡ true
    last_slot_continues = parts.last_slot_continues (rules q) q.length q.situation b.2

    -- a candidate's slot that is in the key is run to the end with its readings holding, and conversely; of any bytes
    pub candidate_in_key : (x : List ℕ) → (x among map slot_of (key_of q)) ↔ (slot_run q x ≡ told (ended true) 0)
    unfolding slot_run
    candidate_in_key x = (there, back (is_slot (rules q).events q.length x) refl)
      where
        in_slots : x among map slot_of (key_of q) → is_slot (rules q).events q.length x ≡ true
        in_slots m =
            let r = of_map slot_of x (key_of q) m in
            let a = (exactly_the_answers r.0).0 r.2 in
            rw r.1 (is_slot_of_word (rules q).events q.length b.2 r.0 a.short a.permitted)

        run_told : Ran
        run_told = told (run (rules q) q.situation (word_of x)) (name_told q.plan q.events q.situation (word_of x))

        there : x among map slot_of (key_of q) → (if is_slot (rules q).events q.length x then run_told else not_run 22) ≡ told (ended true) 0
        there m =
            let ran = (candidate.candidate_in_key (rules q) q.length q.situation b.2 x (in_slots m)).0 m in
            rw (in_slots m) (ap₂ told ran (unstopped q.plan q.events q.readings (word_of x) q.situation 1 (ap (λ (o : Outcome). o.refusal) ran)))

        back : (t : Bool) → is_slot (rules q).events q.length x ≡ t → (if t then run_told else not_run 22) ≡ told (ended true) 0 → x among map slot_of (key_of q)
        back true h e = (candidate.candidate_in_key (rules q) q.length q.situation b.2 x h).1 (ap (λ (r : Ran). record { place = r.place; refusal = r.event_refusal; holds = r.holds }) e)
        back false h e = let z : ◌≡◌ {A = ℕ} 22 0 = ap (λ (r : Ran). r.refusal) e in absurd (omega arith)
