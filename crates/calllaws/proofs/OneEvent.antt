-- One call of `folvkin_event`, on records that say a plan and a sound situation: it tells what `applied` gives, and writes the records of the
-- situation after. Assumes nothing.
use Rattle.std.specs.Prelude.{if◌then◌else◌}
use Prim.Native.Nat.{ℕ, ◌≤◌}
use mathlib.Core.Path.{◌≡◌, refl, sym, ap, ap₂, ◌∙◌}
use mathlib.Core.Bool.{Bool, true, false, not}
use mathlib.Core.List.{List, [], ◌∷◌, ◌++◌}
use native.Mathlib.Omega.{arith}
use borrow.Author.Tests.{eqb-true, le-leb}
use lib.ListN.{length, take, drop}
use lib.Seq.{take-append_seam}
use lib.Dec.{T, eqb}
use Rattle.words.proofs.Tests.{not_equal, if_case}
use Rattle.forms.specs.Whole.{Whole, accepted as form}
use Rattle.forms.proofs.Whole.{written_is_read}
use Rattle.block.specs.Line.{is_plan}
use Rattle.block.specs.declared.line.Plan.{Plan}
use Rattle.block.specs.declared.event.Event.{Event}
use Rattle.rulebook.specs.Situation.{Kept}
use Rattle.rulebook.specs.Sound.{sound}
use Rattle.rulebook.specs.Judged.{judged}
use Rattle.rulebook.specs.Apply.{known, argument_right, own_refusal, reached, accepted, refused, acted, stepped, applied, Outcome}
use Rattle.rulebook.specs.Names.{name}
use Rattle.rulebook.proofs.RefusalsBelow.{applied_below}
use Rattle.rulebook.proofs.NamesRight.{name_below}
use Rattle.rulebook.proofs.SoundnessKept.{soundness_kept}
use Rattle.records.specs.Situation.{codes_of, situation}
use Rattle.records.proofs.RecordLaws.{situation_law}
use Rattle.records.proofs.CodesLaws.{codes_say, codes_fit}
use Rattle.lists.specs.Refusal.{◌unless◌, ◌or_else◌, event_refusal}
use Rattle.paper.specs.Given.{Given, given_by, given}
use Rattle.folvkin.specs.Block.{tried_refusal, record_after, told_with, room_with, event_packed, event_room}
use Rattle.calllaws.proofs.FieldsReadBack.{event_number}
use Rattle.calllaws.proofs.LaidEndToEnd.{alone}
use Rattle.calllaws.specs.Told.{Call, refusal_told, second_told}
use Rattle.calllaws.specs.EventCalls.{Lent, event_call, records_left}

-- ---- the order of refusals: with room enough, as `applied` has it
in_order : (j own : ℕ) (k r : Bool) (x y : Kept)
    → j or_else (3 unless k or_else 4 unless r) or_else 24 unless true or_else own
    ≡ (if eqb j 0 then
    (if not k then refused 3 x else
    if not r then refused 4 x else
    if eqb own 0 then accepted y else refused own x)
    else refused j x).refusal
in_order j own k r x y = go (eqb j 0) refl k r
  where
    last : (v : Bool) → eqb own 0 ≡ v → own ≡ (if v then accepted y else refused own x).refusal
    last true e = eqb-true own 0 e
    last false e = refl

    go : (v : Bool) → eqb j 0 ≡ v → (k r : Bool)
        → j or_else (3 unless k or_else 4 unless r) or_else 24 unless true or_else own
        ≡ (if eqb j 0 then
        (if not k then refused 3 x else
        if not r then refused 4 x else
        if eqb own 0 then accepted y else refused own x)
        else refused j x).refusal
    go true e true true = rw e (last (eqb own 0) refl)
    go true e true false = rw e refl
    go true e false r = rw e refl
    go false e k r = rw e refl

module _ (p : Plan) (x : Kept) (e : Event) where
  tried_is_applied : (n : ℕ) → 96 ≤ n → tried_refusal p x e n ≡ (applied p x e).refusal
  unfolding event_refusal stepped acted
  tried_is_applied n h = rw (le-leb 96 n h) (in_order (judged p x) (own_refusal p x e) (known e) (argument_right p e) x (reached p x e))

  abbrev Reaches : Outcome → Type 0
  Reaches o = o.refusal ≡ 0 → o.next ≡ reached p x e

  applied_reaches : (applied p x e).refusal ≡ 0 → (applied p x e).next ≡ reached p x e
  unfolding stepped acted
  applied_reaches =
      if_case Reaches (eqb (judged p x) 0) (stepped p x e) (refused (judged p x) x)
      (λ t.
      if_case Reaches (not (known e)) (refused 3 x) _ (λ u n. absurd (omega (arith, n))) λ k.
      if_case Reaches (not (argument_right p e)) (refused 4 x) _ (λ u n. absurd (omega (arith, n))) λ r.
      if_case Reaches (eqb (own_refusal p x e) 0) (accepted (reached p x e)) (refused (own_refusal p x e) x)
      (λ u n. refl) (λ u n. absurd (not_equal _ 0 u n)))
      (λ t n. absurd (not_equal _ 0 t n))

-- ---- records that say a plan and a situation
abbrev pub says : Plan → Kept → Whole Given
says p x = form (record { plan = p; situation = x })

module _ (p : Plan) (planned : T (is_plan p)) (plan_bytes : List ℕ) where
  given_after : (bytes : List ℕ) (x : Kept) → given plan_bytes bytes ≡ says p x → (y : Kept) → T (sound p y) → given plan_bytes (situation.written (codes_of y)) ≡ says p y
  unfolding given
  given_after bytes x g y s =
      let first = (alone plan_bytes bytes (record { plan = p; situation = x }) g).plan_alone in
      let second = written_is_read situation_law.lawful (codes_of y) (codes_fit p y planned s) in
      ap₂ given_by first second ∙ ap (says p) (codes_say p y planned s)

  module _ (bytes : List ℕ) (x : Kept) (g : given plan_bytes bytes ≡ says p x) (s : T (sound p x)) (l : Lent) (h : 96 ≤ length l.room) where
    abbrev e : Event
    e = l.event

    abbrev refusal : ℕ
    refusal = (applied p x e).refusal

    abbrev call_with : ℕ → List ℕ → Call
    call_with r after = record { told = told_with r (name p x e r) after; room = room_with r after l.room }

    told_is : event_call plan_bytes bytes l ≡ call_with refusal (record_after p x e)
    told_is =
        ap (λ (w : Whole Given). record { told = event_packed w (e.code ∷ e.argument ∷ []) l.room; room = event_room w (e.code ∷ e.argument ∷ []) l.room }) g
        ∙ ap (λ (r : ℕ). call_with r (record_after p x e)) (tried_is_applied p x e (length l.room) h)

    fields : (refusal_told (event_call plan_bytes bytes l) ≡ refusal) × (second_told (event_call plan_bytes bytes l) ≡ name p x e refusal)
    fields =
        let number = event_number refusal (name p x e refusal) (record_after p x e) (omega (arith, applied_below p x e)) (name_below p planned x e refusal) in
        (ap refusal_told told_is ∙ number.0, ap second_told told_is ∙ number.1)

    pub answers : refusal_told (event_call plan_bytes bytes l) ≡ refusal
    answers = fields.0

    -- `refusal + 2^8 name + 2^16 length`
    pub names : second_told (event_call plan_bytes bytes l) ≡ name p x e refusal
    names = fields.1

    module _ (yes : refusal ≡ 0) where
      left : records_left (event_call plan_bytes bytes l) ≡ record_after p x e
      left =
          let after = record_after p x e in
          let long = (event_number 0 0 after (omega arith) (omega arith)).2 in
          ap records_left (told_is ∙ ap (λ (r : ℕ). call_with r after) yes)
          ∙ ap (λ (n : ℕ). take n (after ++ drop (length after) l.room)) long
          ∙ take-append_seam after (drop (length after) l.room)

      pub goes_on : given plan_bytes (records_left (event_call plan_bytes bytes l)) ≡ says p (applied p x e).next
      goes_on =
          let next = applied_reaches p x e yes in
          ap (given plan_bytes) (left ∙ ap (λ (y : Kept). situation.written (codes_of y)) (sym next))
          ∙ given_after bytes x g (applied p x e).next (soundness_kept p planned x e s)
