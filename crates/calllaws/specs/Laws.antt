-- What is proved of the calls together, each law as a statement, proved under the same name in proofs/.
use Rattle.std.specs.Prelude.{ℕ, ◌+◌, ◌-◌, ◌%◌, ◌≤◌, ◌<◌, ◌≡◌, ◌↔◌, true, false, length as size, take, get_or, T}
use mathlib.Core.List.{List, [], ◌∷◌, ◌++◌, Memᴰ}
use Rattle.keylaws.specs.Rules.{Rules, Word}
use Rattle.keylaws.specs.Key.{answers}
use Rattle.keylaws.specs.Order.{before}
use Rattle.keylaws.specs.Slots.{slots, word_of, is_slot}
use Rattle.keylaws.specs.Run.{stopped}
use Rattle.keylaws.specs.Continuation.{from_start}
use Rattle.keylaws.specs.Parts.{joined, total, remain, Rooms}
use Rattle.words.specs.Words.{◌and◌}
use Rattle.block.specs.Line.{is_section}
use Rattle.block.specs.declared.line.Plan.{Plan}
use Rattle.block.specs.declared.line.Direction.TheVariants.{TowardsA, TowardsB}
use Rattle.block.specs.declared.event.Event.{Event}
use Rattle.block.specs.declared.reading.Reading.{Reading}
use Rattle.rulebook.specs.Situation.{Kept}
use Rattle.rulebook.specs.Apply.{applied, Outcome, at_the_end, after_events}
use Rattle.rulebook.specs.Names.{name}
use Rattle.rulebook.specs.Laws.{stepped_in_01}
use Rattle.aspects.specs.Aspects.{aspect}
use Rattle.aspects.specs.Covering.{covering, off_red}
use Rattle.aspects.specs.Laws.{FirstRuleIn}
use Rattle.records.specs.Lists.{event_at}
use Rattle.forms.specs.Whole.{accepted}
use Rattle.paper.specs.Question.{Question}
use Rattle.paper.specs.Given.{given}
use Rattle.keys.specs.Key.{Accepted, question_in, rules, key_of}
use Rattle.keys.specs.Calls.{told}
use Rattle.folvkin.specs.Block.{situation_refusal}
use Rattle.folvkin.specs.Questions.{packed_run, run_packed}
use Rattle.calllaws.specs.Told.{Call}
use Rattle.calllaws.specs.KeyCalls.{key_calls, parts_told, NoneRefused}
use Rattle.calllaws.specs.EventCalls.{Lent, events_lent, Rooms96, AllAnswer0, records_at_the_end, reading_call, AllGive, EventTry, records_after_all, events_tried, aspects_call, byte_shown}
use Rattle.calllaws.specs.Answers.{events_of, events_in_key, outcomes, AllAccepted, Permitted, Right}

-- ---- demand 3: the key holds every right sequence, once, in order, and nothing else; parts joined are the same key
-- the calls fetch the key: none is refused, they end, their slots joined are the slots of the key, and their counts are its length
pub record Fetches (question : List ℕ) (calls : List Call) : Type 0 where
  pub none_refused : NoneRefused calls
  pub ended : remain (parts_told calls) ≡ false
  pub slots_joined : joined (parts_told calls) ≡ slots (key_of (question_in question))
  pub counted : total (parts_told calls) ≡ size (key_of (question_in question))

-- the key is exactly the right sequences, in order, each once
pub record Complete (q : Question) : Type 0 where
  pub exactly : (events : List Event) → Memᴰ events (events_in_key q) ↔ Right q events
  pub once : (i j : ℕ) → i < size (key_of q) → j < size (key_of q) → events_of q (get_or (key_of q) i []) ≡ events_of q (get_or (key_of q) j []) → i ≡ j
  pub in_order : (i j : ℕ) → i < j → j < size (key_of q) → before (get_or (key_of q) i []) (get_or (key_of q) j []) ≡ true
  pub extensions_later : (i j : ℕ) → i < size (key_of q) → j < size (key_of q) → (p : ℕ) (v : Word) → get_or (key_of q) j [] ≡ get_or (key_of q) i [] ++ (p ∷ v) → i < j

-- for accepted bytes and enough rooms of six bytes or more: one at least, and as many as the key has slots
abbrev pub Demand3 : Type 0
Demand3 =
    (question : List ℕ) → Accepted question →
    Complete (question_in question)
    × ((rooms : List (List ℕ)) → Rooms rooms → 1 ≤ size rooms → size (key_of (question_in question)) ≤ size rooms → Fetches question (key_calls question from_start rooms))

-- ---- from event calls to the key
-- what event and reading calls show of a sequence, from the question's own plan and situation
pub record ShownByCalls (q : Question) (plan situation : List ℕ) (lent : List Lent) : Type 0 where
  pub short : size lent ≤ q.length
  pub permitted : Permitted q (events_lent lent)
  pub accepted : AllAnswer0 plan situation lent
  pub readings : AllGive plan (records_at_the_end plan situation lent) q.readings

-- a sequence is in the key exactly if it is of permitted events, up to the length, and the event calls, each on the records that the one before wrote and
-- with a room of 96 bytes or more, all answer 0, and at the end every reading call gives the value asked
abbrev pub CallsAgree : Type 0
CallsAgree =
    (question plan situation : List ℕ) → Accepted question →
    let q = question_in question in
    given plan situation ≡ accepted (record { plan = q.plan; situation = q.situation }) →
    (lent : List Lent) → Rooms96 lent → Memᴰ (events_lent lent) (events_in_key q) ↔ ShownByCalls q plan situation lent

-- ---- a candidate's run, by the contract of `folvkin_run`: it stops at the first event that is refused, applied where those before it have led, and
-- tells its place, its refusal and what that names (02, Req 01)
abbrev pub RunStops : Type 0
RunStops =
    (question slot : List ℕ) → Accepted question →
    let q = question_in question in
    let places = word_of slot in
    is_slot (rules q).events q.length slot ≡ true → (i : ℕ) → i < size places →
    let before = outcomes q (events_of q (take i places)) in
    let x = at_the_end q.situation before in
    let e = event_at q.events (get_or places i 0) in
    let refusal = (applied q.plan x e).refusal in
    AllAccepted before → (refusal ≡ 0 → ⊥) →
    run_packed question slot ≡ packed_run (told (stopped (i + 1) refusal) (name q.plan x e refusal))

-- ---- (02, Req 01) "keys do not change": the key of every question is the list of answers by rows in which 13 and 15 are one check, as document 01
-- has it
abbrev pub rules_in_01 : Question → Rules
rules_in_01 q =
    let step : Kept → ℕ → Outcome = λ x place. stepped_in_01 q.plan x (event_at q.events place) in
    record { Situation = Kept; events = (rules q).events; refusal = λ x place. (step x place).refusal; next = λ x place. (step x place).next; holds = (rules q).holds }

abbrev pub KeysStay : Type 0
KeysStay = (q : Question) → key_of q ≡ answers (rules_in_01 q) q.length q.situation

-- ---- (02, Req 03) the school's first rule over the calls
-- through any calls of `folvkin_event`, refused ones included, each on the records that the last accepted one wrote (or the first ones), the records say
-- the situation after the events tried
abbrev pub CallsLead : Type 0
CallsLead =
    (plan situation : List ℕ) → situation_refusal plan situation ≡ 0 →
    (p : Plan) (x : Kept) → given plan situation ≡ accepted (record { plan = p; situation = x }) → (tries : List EventTry) →
    given plan (records_after_all plan situation tries) ≡ accepted (record { plan = p; situation = after_events p x (events_tried tries) })

-- a reading that gives "out" of a station: "2 orientation"; "0 none, 1 out, 2 in"
abbrev pub oriented_out : ℕ → Reading
oriented_out station = record { kind = 2; argument = station; value = 1 }

-- what the calls show of records that say the situation y: the aspects call answers 0, and of the 2n bytes that it writes the two of section k are the
-- aspects of its covering signals, and not both off red; the reading calls answer 0 too, and do not give "out" of both stations
pub record FirstRuleShown (p : Plan) (y : Kept) (plan situation room : List ℕ) : Type 0 where
  pub aspects_answer : (aspects_call plan situation room).told ≡ 0
  pub as_defined : (k : ℕ) → T (is_section p k) → (byte_shown plan situation room (k - 1) ≡ aspect p y (covering TowardsB k)) × (byte_shown plan situation room (p.sections + (k - 1)) ≡ aspect p y (covering TowardsA k))
  pub opposing : (k : ℕ) → T (is_section p k) → (off_red (byte_shown plan situation room (k - 1)) and off_red (byte_shown plan situation room (p.sections + (k - 1)))) ≡ false
  pub readings_answer : (station : ℕ) → station ≤ 1 → reading_call plan situation (oriented_out station) % 256 ≡ 0
  pub orientations : AllGive plan situation (oriented_out 0 ∷ oriented_out 1 ∷ []) → ⊥

-- from records that `folvkin_situation` accepts, through any such calls
abbrev pub CallsFirstRule : Type 0
CallsFirstRule =
    (plan situation : List ℕ) → situation_refusal plan situation ≡ 0 →
    (p : Plan) (x : Kept) → given plan situation ≡ accepted (record { plan = p; situation = x }) →
    (tries : List EventTry) (room : List ℕ) → p.sections + p.sections ≤ size room →
    FirstRuleShown p (after_events p x (events_tried tries)) plan (records_after_all plan situation tries) room

-- every sequence of a key ends in a situation where the first rule holds
abbrev pub KeyFirstRule : Type 0
KeyFirstRule =
    (question : List ℕ) → Accepted question →
    let q = question_in question in
    (events : List Event) → Memᴰ events (events_in_key q) → FirstRuleIn q.plan (after_events q.plan q.situation events)
