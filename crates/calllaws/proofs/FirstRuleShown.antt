-- The school's first rule over the calls: the records at the end of any event calls say the situation after the events tried (OneEvent: an accepted call
-- writes those of the situation after, and a refused event leaves it), where the rule holds (aspects FirstRule). Assumes nothing.
use Rattle.std.specs.Prelude.{if◌then◌else◌}
use Prim.Native.Nat.{ℕ, zero, suc, ◌+◌, ◌-◌, ◌%◌, ◌≤◌, ◌<◌}
use mathlib.Core.Path.{◌≡◌, refl, sym, ap, ap₂, subst, ◌∙◌}
use mathlib.Core.Bool.{Bool, true, false, not}
use mathlib.Core.List.{List, [], ◌∷◌, ◌++◌}
use native.Mathlib.Omega.{arith}
use native.Mathlib.Decide.{dec_lt}
use borrow.Author.Tests.{le-leb, lt-ltb, le-ltb}
use lib.ListN.{length, drop, get_or, get_or-append}
use lib.Seq.{get_or_at}
use lib.Dec.{T, T_not, eqb, leb, eqb→eq, leb→le}
use Rattle.words.specs.Words.{◌and◌}
use Rattle.words.proofs.Tests.{if_case, holds_is, is_holds, and_at, and_of, not_equal}
use Rattle.forms.specs.Form.{laid}
use Rattle.forms.specs.Whole.{Whole}
use Rattle.forms.proofs.Reading.{both}
use Rattle.block.specs.Line.{is_plan, is_section}
use Rattle.block.specs.Codes as codes
use Rattle.block.specs.declared.line.Plan.{Plan}
use Rattle.block.specs.declared.line.Direction.TheVariants.{TowardsA, TowardsB}
use Rattle.block.specs.declared.event.Event.{Event}
use Rattle.block.proofs.PlanLaws.{Within, within}
use Rattle.rulebook.specs.Situation.{Kept, ◌is_out, ◌is_in}
use Rattle.rulebook.specs.Sound.{sound}
use Rattle.rulebook.specs.Judged.{judged}
use Rattle.rulebook.specs.Apply.{applied, after_events}
use Rattle.rulebook.proofs.Judged.{judged_accepts, judged_plan, judged_sound}
use Rattle.rulebook.proofs.RefusedUnchanged.{refused_unchanged}
use Rattle.rulebook.proofs.SoundnessKept.{soundness_kept, sound_after}
use Rattle.aspects.specs.Aspects.{green, code, aspect}
use Rattle.aspects.specs.Covering.{covering, off_red}
use Rattle.aspects.specs.Laws.{FirstRuleIn}
use Rattle.aspects.proofs.FirstRule.{first_rule}
use Rattle.rules.specs.RulesOf.{all_hold}
use Rattle.signals.specs.Readings.{reading_in_range, reading_holds, value_read}
use Rattle.lists.specs.Refusal.{◌unless◌, ◌or_else◌, readings_in_range}
use Rattle.lists.proofs.RightLists.{or_else_none, unless_none}
use Rattle.paper.specs.Given.{Given, given}
use Rattle.paper.proofs.Accepted as paper
use Rattle.paper.proofs.ReadBytes.{read_is_accepted}
use Rattle.keys.specs.Key.{question_in}
use Rattle.folvkin.specs.Block.{event_in, longest_situation, event_told, tried_refusal, signal_at, first_aspects, room_with, situation_refusal, situation_told, aspects_told, aspects_room}
use Rattle.folvkin.proofs.RoomLeft.{room_enough}
use Rattle.folvkin.proofs.AspectsWritten.{all_long}
use Rattle.calllaws.specs.Told.{Call, refusal_told}
use Rattle.calllaws.specs.EventCalls.{Lent, bytes_call, event_call, records_left, reading_call, AllGive, EventTry, records_kept, records_after_all, in_form, events_tried, aspects_call, byte_shown}
use Rattle.calllaws.specs.Laws.{oriented_out, FirstRuleShown, CallsLead, CallsFirstRule, KeyFirstRule}
use Rattle.calllaws.proofs.FieldsReadBack.{event_fields}
use Rattle.calllaws.proofs.OneEvent.{says, answers, goes_on}
use Rattle.calllaws.proofs.CallsAgree.{value_told, all_held}

-- ---- call after call
two_bytes : (e : List ℕ) → length e ≡ 2 → e ≡ get_or e 0 0 ∷ get_or e 1 0 ∷ []
two_bytes [] h = absurd (omega arith)
two_bytes (a ∷ []) h = absurd (omega arith)
two_bytes (a ∷ b ∷ []) h = refl
two_bytes (a ∷ b ∷ c ∷ e) h = absurd (omega arith)

-- an accepted call hands on the records that it wrote, a refused one those that it was made on
kept : (P : List ℕ → Type 0) (bytes : List ℕ) (c : Call) → (refusal_told c ≡ 0 → P (records_left c)) → ((refusal_told c ≡ 0 → ⊥) → P bytes) → P (records_kept bytes c)
kept P bytes c f g =
    if_case P (eqb (refusal_told c) 0) (records_left c) bytes (λ u. f (eqb→eq (refusal_told c) 0 u)) (λ u. g (not_equal (refusal_told c) 0 u))

module _ (p : Plan) (planned : T (is_plan p)) (plan : List ℕ) where
  module _ (bytes : List ℕ) (x : Kept) (g : given plan bytes ≡ says p x) (s : T (sound p x)) where
    lent_leads : (l : Lent) → 96 ≤ length l.room → given plan (records_kept bytes (event_call plan bytes l)) ≡ says p (applied p x l.event).next
    lent_leads l h =
        let c = event_call plan bytes l in
        let told = answers p planned plan bytes x g s l h in
        kept (λ (b : List ℕ). given plan b ≡ says p (applied p x l.event).next) bytes c
        (λ z. goes_on p planned plan bytes x g s l h (sym told ∙ z)) (λ n. g ∙ ap (says p) (sym (refused_unchanged p x l.event (λ z. n (told ∙ z)))))

    module _ (t : EventTry) where
      abbrev call : Call
      call = bytes_call plan bytes t.event t.room

      in_form_leads : T (in_form t) → given plan (records_kept bytes call) ≡ says p (applied p x (event_in t.event)).next
      in_form_leads f =
          let h = and_at (eqb (length t.event) 2) (leb longest_situation (length t.room)) f in
          subst (λ (b : List ℕ). given plan (records_kept bytes (bytes_call plan bytes b t.room)) ≡ says p (applied p x (event_in t.event)).next)
          (sym (two_bytes t.event (eqb→eq (length t.event) 2 h.0)))
          (lent_leads (record { event = event_in t.event; room = t.room }) (leb→le longest_situation (length t.room) h.1))

      answered_in_form : event_told (says p x) t.event t.room ≡ 0 → T (in_form t)
      answered_in_form h =
          let a = or_else_none (20 unless eqb (length t.event) 2) (tried_refusal p x (event_in t.event) (length t.room)) h in
          and_of (eqb (length t.event) 2) (leb longest_situation (length t.room))
          (is_holds (eqb (length t.event) 2) (unless_none 19 (eqb (length t.event) 2) a.0))
          (is_holds (leb longest_situation (length t.room)) (le-leb longest_situation (length t.room) (room_enough p x (event_in t.event) (length t.room) a.1)))

      others_leave : T (not (in_form t)) → given plan (records_kept bytes call) ≡ says p x
      others_leave f =
          let told = (event_fields (given plan bytes) t.event t.room).0 ∙ ap (λ (w : Whole Given). event_told w t.event t.room) g in
          kept (λ (b : List ℕ). given plan b ≡ says p x) bytes call (λ z. absurd (T_not (in_form t) f (answered_in_form (sym told ∙ z)))) (λ n. g)

  chain : (tries : List EventTry) (bytes : List ℕ) (x : Kept) → given plan bytes ≡ says p x → T (sound p x)
      → given plan (records_after_all plan bytes tries) ≡ says p (after_events p x (events_tried tries))
  unfolding records_after_all
  chain [] bytes x g s = g
  chain (t ∷ tries) bytes x g s =
      let e = event_in t.event in
      let left = records_kept bytes (bytes_call plan bytes t.event t.room) in
      if_case (λ (events : List Event). given plan (records_after_all plan left tries) ≡ says p (after_events p x events)) (in_form t) (e ∷ events_tried tries) (events_tried tries)
      (λ f. chain tries left (applied p x e).next (in_form_leads bytes x g s t f) (soundness_kept p planned x e s))
      (λ f. chain tries left x (others_leave bytes x g s t f) s)

-- ---- the bytes that the aspects call writes
aspect_at : (p : Plan) (x : Kept) (d m i : ℕ) → i < m → get_or (first_aspects p x m) i d ≡ aspect p x (signal_at p.sections i)
unfolding first_aspects
aspect_at p x d zero i h = absurd (omega arith)
aspect_at p x d (suc m) i h = go (aspect_at p x d m i) (dec_lt i m)
  where
    go : (i < m → get_or (first_aspects p x m) i d ≡ aspect p x (signal_at p.sections i)) → Dec (i < m)
        → get_or (first_aspects p x m ++ (aspect p x (signal_at p.sections m) ∷ [])) i d ≡ aspect p x (signal_at p.sections i)
    go before (yes l) = get_or-append (first_aspects p x m) (aspect p x (signal_at p.sections m) ∷ []) d i (omega (arith, all_long p x m, l)) ∙ before l
    go before (no n) =
        let last : m ≡ i = omega (arith, n, h) in
        get_or_at (first_aspects p x m) (aspect p x (signal_at p.sections m)) [] d i (all_long p x m ∙ last) ∙ ap (λ (j : ℕ). aspect p x (signal_at p.sections j)) last

none_told : (j : ℕ) (fits : Bool) → j ≡ 0 → fits ≡ true → j or_else 24 unless fits ≡ 0
none_told j fits e f = rw (e, f) refl

out_coded : (out inward : Bool) → eqb (codes.code out inward) 1 ≡ true → T out
out_coded true inward e = tt
out_coded false true e = is_holds false e
out_coded false false e = is_holds false e

module _ (p : Plan) (planned : T (is_plan p)) (plan bytes room : List ℕ) (y : Kept) (said : given plan bytes ≡ says p y) (s : T (sound p y)) (rule : FirstRuleIn p y) (h : p.sections + p.sections ≤ length room) where
  abbrev n : ℕ
  n = p.sections

  told_so : aspects_told (says p y) room ≡ 0
  told_so = none_told (judged p y) (leb (n + n) (length room)) (judged_accepts p planned y s) (le-leb (n + n) (length room) h)

  written : (aspects_call plan bytes room).room ≡ laid (first_aspects p y (n + n)) room
  written = ap (λ (w : Whole Given). aspects_room w room) said ∙ ap (λ (t : ℕ). room_with t (first_aspects p y (n + n)) room) told_so

  byte_is : (i : ℕ) → i < n + n → byte_shown plan bytes room i ≡ aspect p y (signal_at n i)
  byte_is i l =
      let all = first_aspects p y (n + n) in
      ap (λ (b : List ℕ). get_or b i (code green)) written
      ∙ get_or-append all (drop (length all) room) (code green) i (omega (arith, all_long p y (n + n)))
      ∙ aspect_at p y (code green) (n + n) i l

  module _ (k : ℕ) (on : T (is_section p k)) where
    inside : Within p k
    inside = within p k (holds_is (is_section p k) on)

    towards_b : byte_shown plan bytes room (k - 1) ≡ aspect p y (covering TowardsB k)
    towards_b =
        let low = inside.least in
        let high = inside.most in
        let same : 1 + (k - 1) ≡ k = omega (arith, low) in
        byte_is (k - 1) (omega (arith, low, high))
        ∙ ap (λ (v : Bool). aspect p y (if v then 1 + (k - 1) else 129 + (k - 1 - n))) (lt-ltb (k - 1) n (omega (arith, low, high)))
        ∙ ap (aspect p y) same

    towards_a : byte_shown plan bytes room (n + (k - 1)) ≡ aspect p y (covering TowardsA k)
    towards_a =
        let low = inside.least in
        let high = inside.most in
        let same : 129 + (n + (k - 1) - n) ≡ 128 + k = omega (arith, low) in
        byte_is (n + (k - 1)) (omega (arith, low, high))
        ∙ ap (λ (v : Bool). aspect p y (if v then 1 + (n + (k - 1)) else 129 + (n + (k - 1) - n))) (le-ltb (n + (k - 1)) n (omega arith))
        ∙ ap (aspect p y) same

  -- "2 orientation" is read of either station
  readable : (station : ℕ) → station ≤ 1 → reading_in_range p 2 station 1 ≡ true
  readable station l = rw (le-leb station 1 l) refl

  answers_0 : (station : ℕ) → station ≤ 1 → reading_call plan bytes (oriented_out station) % 256 ≡ 0
  answers_0 station l = let number = value_told p planned plan bytes y said s (oriented_out station) (readable station l) in omega (arith, number)

  not_both : AllGive plan bytes (oriented_out 0 ∷ oriented_out 1 ∷ []) → ⊥
  unfolding readings_in_range all_hold value_read
  not_both gives =
      let held = all_held p planned plan bytes y said s (oriented_out 0 ∷ oriented_out 1 ∷ []) refl gives in
      let a = both (reading_holds p y 2 0 1) (all_hold p (oriented_out 1 ∷ []) y) held in
      let b = both (reading_holds p y 2 1 1) true a.1 in
      let out-a = out_coded (y.traffic.own is_out) (y.traffic.own is_in) a.0 in
      let out-b = out_coded (y.traffic.other is_out) (y.traffic.other is_in) b.0 in
      subst T rule.orientations (and_of (y.traffic.own is_out) (y.traffic.other is_out) out-a out-b)

  all_shown : FirstRuleShown p y plan bytes room
  all_shown =
      record {
        aspects_answer = ap (λ (w : Whole Given). aspects_told w room) said ∙ told_so;
        as_defined = λ k on. (towards_b k on, towards_a k on);
        opposing = λ k on. ap₂ (λ (a b : ℕ). off_red a and off_red b) (towards_b k on) (towards_a k on) ∙ rule.opposing k on;
        readings_answer = answers_0;
        orientations = not_both;
      }

module _ (plan situation : List ℕ) (answered : situation_refusal plan situation ≡ 0) (p : Plan) (x : Kept) (g : given plan situation ≡ says p x) where
  right : judged p x ≡ 0
  right = sym (ap situation_told g) ∙ answered

  planned : T (is_plan p)
  planned = judged_plan p x right

  pub leads : (tries : List EventTry) → given plan (records_after_all plan situation tries) ≡ says p (after_events p x (events_tried tries))
  leads tries = chain p planned plan tries situation x g (judged_sound p x right)

  pub first_rule_shown : (tries : List EventTry) (room : List ℕ) → p.sections + p.sections ≤ length room → FirstRuleShown p (after_events p x (events_tried tries)) plan (records_after_all plan situation tries) room
  first_rule_shown tries room =
      let s = judged_sound p x right in
      let events = events_tried tries in
      all_shown p planned plan (records_after_all plan situation tries) room (after_events p x events) (leads tries) (sound_after p planned x s events) (first_rule p planned x s events)

pub calls_lead : CallsLead
calls_lead = leads

pub calls_first_rule : CallsFirstRule
calls_first_rule = first_rule_shown

-- ---- a key's sequences, as any others
pub key_first_rule : KeyFirstRule
key_first_rule question right events m =
    let q = question_in question in
    let ok = paper.accepted q (read_is_accepted question right) in
    first_rule q.plan ok.plan q.situation ok.situation events
