-- What an accepted question meets, and what a question is answered with that fails a check. Assumes nothing.
use Rattle.std.specs.Prelude.{if◌then◌else◌}
use Prim.Native.Nat.{ℕ, ◌≤◌}
use mathlib.Core.Path.{◌≡◌, sym, ap, ◌∙◌}
use mathlib.Core.Bool.{Bool, true, false}
use native.Mathlib.Omega.{arith}
use borrow.Author.Tests.{leb-true, le-leb, ne_eqb}
use lib.ListN.{length}
use lib.Dec.{T, eqb, leb}
use Rattle.words.specs.Words.{◌and◌}
use Rattle.forms.proofs.Reading.{both}
use Rattle.rulebook.specs.Judged.{judged}
use Rattle.block.specs.Line.{is_plan}
use Rattle.rulebook.specs.Sound.{sound}
use Rattle.lists.specs.Refusal.{◌unless◌, ◌or_else◌, lists_refusal}
use Rattle.lists.proofs.RightLists.{or_else_none, unless_none}
use Rattle.paper.specs.Question.{Question}
use Rattle.paper.specs.Refusal.{counts_in_range, refusal_of}
use Rattle.paper.specs.Read.{Read, refused, answered}

pub counts_right : (events readings : ℕ) → counts_in_range events readings ≡ true → (1 ≤ events) × (events ≤ 12) × (readings ≤ 6)
unfolding counts_in_range
counts_right events readings h =
    let a = both (leb 1 events and leb events 12) (leb readings 6) h in
    let b = both (leb 1 events) (leb events 12) a.0 in
    (leb-true _ _ b.0, leb-true _ _ b.1, leb-true _ _ a.1)

pub counts_fit : (events readings : ℕ) → 1 ≤ events → events ≤ 12 → readings ≤ 6 → counts_in_range events readings ≡ true
unfolding counts_in_range
counts_fit events readings l m n = rw (le-leb _ _ l, le-leb _ _ m, le-leb _ _ n)

judged_none : (plan right : Bool) → ◌≡◌ {A = ℕ} (if plan then (if right then 0 else 2) else 1) 0 → T plan × T right
judged_none true true h = (tt, tt)
judged_none true false h = absurd (omega arith)
judged_none false right h = absurd (omega arith)

pub record Accepted (q : Question) : Type 0 where
  pub counts : (1 ≤ length q.events) × (length q.events ≤ 12) × (length q.readings ≤ 6)
  pub plan : T (is_plan q.plan)
  pub situation : T (sound q.plan q.situation)
  pub lists : lists_refusal q.plan q.events q.readings q.length ≡ 0

pub accepted : (q : Question) → refusal_of q ≡ 0 → Accepted q
unfolding refusal_of
accepted q h =
    let a = or_else_none (20 unless counts_in_range (length q.events) (length q.readings)) _ h in
    let b = or_else_none (judged q.plan q.situation) _ a.1 in
    let c = judged_none (is_plan q.plan) (sound q.plan q.situation) b.0 in
    record { counts = counts_right _ _ (unless_none 19 _ a.0); plan = c.0; situation = c.1; lists = b.1 }

-- ---- check by check
abbrev settled : Question → ℕ → Read
settled q r = if eqb r 0 then record { refusal = 0; question = q } else refused r

refused_by : (q : Question) (r : ℕ) → (r ≡ 0 → ⊥) → settled q r ≡ refused r
refused_by q r z = rw (ne_eqb r 0 z)

module _ (q : Question) (counts : counts_in_range (length q.events) (length q.readings) ≡ true) where
  abbrev lists : ℕ
  lists = lists_refusal q.plan q.events q.readings q.length

  answered_is : answered q ≡ settled q (judged q.plan q.situation or_else lists)
  unfolding answered refusal_of
  answered_is = ap (λ (v : Bool). settled q (20 unless v or_else judged q.plan q.situation or_else lists)) counts

  or_else_first : (r later : ℕ) → (r ≡ 0 → ⊥) → r or_else later ≡ r
  or_else_first r later z = rw (ne_eqb r 0 z)

  pub not_judged_right : {r : ℕ} → r ≡ judged q.plan q.situation → (r ≡ 0 → ⊥) → answered q ≡ refused r
  not_judged_right {r} e z =
      answered_is
      ∙ ap (λ (j : ℕ). settled q (j or_else lists)) (sym e)
      ∙ ap (settled q) (or_else_first r lists z)
      ∙ refused_by q r z

  module _ (right : judged q.plan q.situation ≡ 0) {r : ℕ} (e : r ≡ lists) where
    answered_by_lists : answered q ≡ settled q r
    answered_by_lists = answered_is ∙ ap (λ (j : ℕ). settled q (j or_else lists)) right ∙ ap (settled q) (sym e)

    pub not_listed_right : (r ≡ 0 → ⊥) → answered q ≡ refused r
    not_listed_right z = answered_by_lists ∙ refused_by q r z

    pub all_right : r ≡ 0 → answered q ≡ record { refusal = 0; question = q }
    all_right z = answered_by_lists ∙ ap (settled q) z
