-- A sequence is in the key exactly if the event calls, chained through their own bytes, all answer 0 and the reading calls give at the end what is
-- asked. Assumes nothing.
use Rattle.std.specs.Prelude.{if◌then◌else◌}
use Prim.Native.Nat.{ℕ, suc, ◌*◌}
use mathlib.Core.Path.{◌≡◌, refl, sym, ap, ◌∙◌}
use mathlib.Core.Bool.{Bool, true}
use mathlib.Core.List.{List, [], ◌∷◌}
use native.Mathlib.Omega.{arith}
use borrow.Author.Tests.{eqb-true, eq-eqb}
use lib.ListN.{length}
use lib.Dec.{T, leb}
use Rattle.words.proofs.Tests.{holds_is}
use Rattle.forms.specs.Whole.{Whole}
use Rattle.forms.proofs.Reading.{both}
use Rattle.block.specs.Line.{is_plan}
use Rattle.block.specs.declared.line.Plan.{Plan}
use Rattle.block.specs.declared.reading.Reading.{Reading}
use Rattle.rulebook.specs.Situation.{Kept}
use Rattle.rulebook.specs.Sound.{sound}
use Rattle.rulebook.specs.Judged.{judged}
use Rattle.rulebook.specs.Apply.{applied, Outcome, along, at_the_end}
use Rattle.rulebook.proofs.SoundnessKept.{soundness_kept}
use Rattle.signals.specs.Readings.{can_be_read, highest_value, reading_in_range, value_read, reading_holds, told, nothing_told}
use Rattle.rules.specs.RulesOf.{all_hold}
use Rattle.lists.specs.Refusal.{readings_in_range}
use Rattle.lists.proofs.RightLists.{lists_right}
use Rattle.paper.specs.Question.{Question}
use Rattle.paper.specs.Given.{Given, given}
use Rattle.paper.specs.Refusal.{refusal_of}
use Rattle.paper.proofs.Accepted.{Accepted, accepted}
use Rattle.paper.proofs.ReadBytes.{read_is_accepted}
use Rattle.keys.specs.Key.{question_in}
use Rattle.folvkin.specs.Block.{reading_told, packed}
use Rattle.calllaws.specs.EventCalls.{Lent, events_lent, Rooms96, event_call, records_left, AllAnswer0, records_at_the_end, reading_call, AllGive}
use Rattle.calllaws.specs.Answers.{AllAccepted, Right}
use Rattle.calllaws.specs.Laws.{ShownByCalls, CallsAgree}
use Rattle.calllaws.proofs.OneEvent.{says, answers, goes_on}
use Rattle.calllaws.proofs.RightSequences.{complete}

module _ (p : Plan) (planned : T (is_plan p)) (plan : List ℕ) where
  abbrev run : Kept → List Lent → List Outcome
  run x lent = along (applied p) x (events_lent lent)

  -- ---- event after event
  all_accepted : (lent : List Lent) (bytes : List ℕ) (x : Kept) → given plan bytes ≡ says p x → T (sound p x) → Rooms96 lent → AllAnswer0 plan bytes lent → AllAccepted (run x lent)
  unfolding AllAnswer0
  all_accepted [] bytes x g s h a = tt
  all_accepted (l ∷ lent) bytes x g s h a =
      let yes = sym (answers p planned plan bytes x g s l h.0) ∙ a.0 in
      (yes, all_accepted lent (records_left (event_call plan bytes l)) (applied p x l.event).next (goes_on p planned plan bytes x g s l h.0 yes) (soundness_kept p planned x l.event s) h.1 a.1)

  all_answer : (lent : List Lent) (bytes : List ℕ) (x : Kept) → given plan bytes ≡ says p x → T (sound p x) → Rooms96 lent → AllAccepted (run x lent) → AllAnswer0 plan bytes lent
  unfolding AllAnswer0
  all_answer [] bytes x g s h a = tt
  all_answer (l ∷ lent) bytes x g s h a = (
    answers p planned plan bytes x g s l h.0 ∙ a.0,
    all_answer lent (records_left (event_call plan bytes l)) (applied p x l.event).next (goes_on p planned plan bytes x g s l h.0 a.0) (soundness_kept p planned x l.event s) h.1 a.1,
  )

  records_end : (lent : List Lent) (bytes : List ℕ) (x : Kept) → given plan bytes ≡ says p x → T (sound p x) → Rooms96 lent → AllAccepted (run x lent)
      → (given plan (records_at_the_end plan bytes lent) ≡ says p (at_the_end x (run x lent))) × T (sound p (at_the_end x (run x lent)))
  unfolding records_at_the_end
  records_end [] bytes x g s h a = (g, s)
  records_end (l ∷ lent) bytes x g s h a =
      records_end lent (records_left (event_call plan bytes l)) (applied p x l.event).next (goes_on p planned plan bytes x g s l h.0 a.0) (soundness_kept p planned x l.event s) h.1 a.1

  -- ---- reading by reading
  module _ (bytes : List ℕ) (x : Kept) (g : given plan bytes ≡ says p x) (s : T (sound p x)) where
    judged_right : judged p x ≡ 0
    judged_right = rw (holds_is (is_plan p) planned, holds_is (sound p x) s)

    pub value_told : (r : Reading) → reading_in_range p r.kind r.argument r.value ≡ true → reading_call plan bytes r ≡ 256 * value_read p x r.kind r.argument
    value_told r h =
        let readable = (both (can_be_read p r.kind r.argument) (leb r.value (highest_value r.kind)) h).0 in
        let told_so : reading_call plan bytes r ≡ packed (told (value_read p x r.kind r.argument)) =
        ap (λ (w : Whole Given). packed (reading_told w (r.kind ∷ r.argument ∷ []))) g
        ∙ ap (λ (v : Bool). packed (if v then (if can_be_read p r.kind r.argument then told (value_read p x r.kind r.argument) else nothing_told 21) else nothing_told (judged p x))) (eq-eqb _ 0 judged_right)
        ∙ ap (λ (v : Bool). packed (if v then told (value_read p x r.kind r.argument) else nothing_told 21)) readable
        in
        omega (arith, told_so)

    all_give : (rs : List Reading) → readings_in_range p rs ≡ true → all_hold p rs x ≡ true → AllGive plan bytes rs
    unfolding readings_in_range all_hold
    all_give [] h k = tt
    all_give (r ∷ rs) h k =
        let range = both (reading_in_range p r.kind r.argument r.value) (readings_in_range p rs) h in
        let held = both (reading_holds p x r.kind r.argument r.value) (all_hold p rs x) k in
        (value_told r range.0 ∙ ap (λ (n : ℕ). 256 * n) (eqb-true _ _ held.0), all_give rs range.1 held.1)

    pub all_held : (rs : List Reading) → readings_in_range p rs ≡ true → AllGive plan bytes rs → all_hold p rs x ≡ true
    unfolding readings_in_range all_hold
    all_held [] h k = refl
    all_held (r ∷ rs) h k =
        let range = both (reading_in_range p r.kind r.argument r.value) (readings_in_range p rs) h in
        let same = sym (value_told r range.0) ∙ k.0 in
        let value : value_read p x r.kind r.argument ≡ r.value = omega (arith, same) in
        rw (eq-eqb _ _ value, all_held rs range.1 k.1) refl

same_length : (lent : List Lent) → length (events_lent lent) ≡ length lent
same_length [] = refl
same_length (l ∷ lent) = ap suc (same_length lent)

module _ (q : Question) (right : refusal_of q ≡ 0) (plan situation : List ℕ) (g : given plan situation ≡ says q.plan q.situation) (lent : List Lent) (h : Rooms96 lent) where
  ok : Accepted q
  ok = accepted q right

  ranges : readings_in_range q.plan q.readings ≡ true
  ranges = (lists_right q.plan q.events q.readings q.length ok.lists).readings_right

  end : Kept
  end = at_the_end q.situation (run q.plan ok.plan plan q.situation lent)

  shown : Right q (events_lent lent) → ShownByCalls q plan situation lent
  unfolding end
  shown r =
      let last = records_end q.plan ok.plan plan lent situation q.situation g ok.situation h r.accepted in
      record {
        short = omega (arith, same_length lent, r.short);
        permitted = r.permitted;
        accepted = all_answer q.plan ok.plan plan lent situation q.situation g ok.situation h r.accepted;
        readings = all_give q.plan ok.plan plan (records_at_the_end plan situation lent) end last.0 last.1 q.readings ranges r.readings;
      }

  as_right : ShownByCalls q plan situation lent → Right q (events_lent lent)
  unfolding end
  as_right c =
      let a = all_accepted q.plan ok.plan plan lent situation q.situation g ok.situation h c.accepted in
      let last = records_end q.plan ok.plan plan lent situation q.situation g ok.situation h a in
      record {
        short = omega (arith, same_length lent, c.short);
        permitted = c.permitted;
        accepted = a;
        readings = all_held q.plan ok.plan plan (records_at_the_end plan situation lent) end last.0 last.1 q.readings ranges c.readings;
      }

pub calls_agree : CallsAgree
calls_agree question plan situation ok g lent h =
    let q = question_in question in
    let right = read_is_accepted question ok in
    let exactly = (complete q right).exactly (events_lent lent) in
    (λ m. shown q right plan situation g lent h (exactly.0 m), λ c. exactly.1 (as_right q right plan situation g lent h c))
