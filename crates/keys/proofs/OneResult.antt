-- The promises of the two calls allow one result each: what a call returns and what its room then holds are fixed by the equation.
use Prim.Native.Nat.{ℕ}
use mathlib.Core.Path.{◌≡◌, sym, ap, ◌∙◌}
use mathlib.Core.Bool.{Bool}
use mathlib.Core.List.{List}
use Rattle.std.specs.Prelude.{Result, Ok, Err}
use Rattle.block.specs.declared.refused.Refusal.{Refusal}
use Rattle.block.proofs.Told.{not_accepted}
use Rattle.rules.specs.declared.run.Stopped.{Stopped}
use Rattle.slots.specs.declared.room.Part.{Part}
use Rattle.paper.specs.Read.{Read}
use Rattle.keys.specs.Calls.{Fetch, Ran, fetched, ran}
use Rattle.keys.specs.Told.{left_by, ran_as}
use Rattle.keys.proofs.OneNumber.{one_number}

same_fetch : (r s : Result Part Refusal) (l m : List ℕ) → left_by r l ≡ left_by s m → (r ≡ s) × (l ≡ m)
same_fetch (Ok p) (Ok q) l m e = (ap Ok (ap (λ (f : Fetch). record { count = f.part.count; more = f.part.more }) e), ap (λ (f : Fetch). f.part.room) e)
same_fetch (Ok p) (Err b) l m e = absurd (not_accepted b (sym (ap (λ (f : Fetch). f.refusal) e)))
same_fetch (Err a) (Ok q) l m e = absurd (not_accepted a (ap (λ (f : Fetch). f.refusal) e))
same_fetch (Err a) (Err b) l m e = (ap Err (one_number a b (ap (λ (f : Fetch). f.refusal) e)), ap (λ (f : Fetch). f.part.room) e)

pub one_key_result : (read : Read) (after room : List ℕ) (r s : Result Part Refusal) (l m : List ℕ) → left_by r l ≡ fetched read after room → left_by s m ≡ fetched read after room → (r ≡ s) × (l ≡ m)
one_key_result read after room r s l m e d = same_fetch r s l m (e ∙ sym d)

same_stop : (t u : Stopped) → t.place ≡ u.place → t.refusal ≡ u.refusal → t.name ≡ u.name → t ≡ u
same_stop t u p r n =
    ap (λ (place : ℕ). record { place = place; refusal = t.refusal; name = t.name }) p
    ∙ ap (λ (refusal : Refusal). record { place = u.place; refusal = refusal; name = t.name }) r
    ∙ ap (λ (name : ℕ). record { place = u.place; refusal = u.refusal; name = name }) n

same_run : (r s : Result (Result Bool Stopped) Refusal) → ran_as r ≡ ran_as s → r ≡ s
same_run (Ok (Ok h)) (Ok (Ok k)) e = ap (λ (v : Bool). Ok (Ok v)) (ap (λ (r : Ran). r.holds) e)
same_run (Ok (Ok h)) (Ok (Err t)) e = absurd (not_accepted t.refusal (sym (ap (λ (r : Ran). r.event_refusal) e)))
same_run (Ok (Err t)) (Ok (Ok k)) e = absurd (not_accepted t.refusal (ap (λ (r : Ran). r.event_refusal) e))
same_run (Ok (Err t)) (Ok (Err u)) e =
    ap (λ (stop : Stopped). Ok (Err stop))
    (same_stop t u (ap (λ (r : Ran). r.place) e) (one_number t.refusal u.refusal (ap (λ (r : Ran). r.event_refusal) e)) (ap (λ (r : Ran). r.name) e))
same_run (Ok a) (Err b) e = absurd (not_accepted b (sym (ap (λ (r : Ran). r.refusal) e)))
same_run (Err a) (Ok b) e = absurd (not_accepted a (ap (λ (r : Ran). r.refusal) e))
same_run (Err a) (Err b) e = ap Err (one_number a b (ap (λ (r : Ran). r.refusal) e))

pub one_run_result : (read : Read) (slot : List ℕ) (r s : Result (Result Bool Stopped) Refusal) → ran_as r ≡ ran read slot → ran_as s ≡ ran read slot → r ≡ s
one_run_result read slot r s e d = same_run r s (e ∙ sym d)
