-- A candidate's slot that is in the key is run to the end with its readings holding, and conversely. From the exactness of the key and what a run tells.
use Prim.Native.Nat.{ℕ, ◌≤◌}
use mathlib.Core.Path.{◌≡◌, ap, ◌∙◌}
use mathlib.Core.Logic.{◌↔◌}
use mathlib.Core.Bool.{true}
use mathlib.Core.List.Memᴰ
use mathlib.Core.List.{List, map}
use Rattle.keylaws.specs.Rules.{Rules}
use Rattle.keylaws.specs.Key.{answers, Answer, ◌among◌}
use Rattle.keylaws.specs.Run.{Outcome, ended, run}
use Rattle.keylaws.specs.Slots.{slot_of, word_of, is_slot}
use Rattle.keylaws.proofs.Among.{in_map, of_map}
use Rattle.keylaws.proofs.ExactlyTheAnswers.{sound, complete}
use Rattle.keylaws.proofs.RunTells.{run_ends, run_holds}
use Rattle.keylaws.proofs.SlotsOfWords.{slot_is, word_of_slot}

module _ (R : Rules) (limit : ℕ) (start : R.Situation) (h5 : limit ≤ 5) where
  pub candidate_in_key : (x : List ℕ) → is_slot R.events limit x ≡ true → (x among map slot_of (answers R limit start)) ↔ (run R start (word_of x) ≡ ended true)
  candidate_in_key x h = (there, back)
    where
      there : x among map slot_of (answers R limit start) → run R start (word_of x) ≡ ended true
      there m =
          let r = of_map slot_of x (answers R limit start) m in
          let e : word_of x ≡ r.0 = ap word_of r.1 ∙ word_of_slot r.0 in
          let a = sound R limit start r.0 r.2 in
          rw e (run_ends R start r.0 a.accepted ∙ ap ended a.ends)

      back : run R start (word_of x) ≡ ended true → x among map slot_of (answers R limit start)
      back e =
          let w = slot_is R.events limit h5 x h in
          let r = run_holds R start (word_of x) (ap (λ (o : Outcome). o.holds) e) in
          let a : Answer R limit start (word_of x) = record { short = w.1; permitted = w.2; accepted = r.0; ends = r.1 } in
          Memᴰ.cast w.0 (in_map slot_of (word_of x) (answers R limit start) (complete R limit start (word_of x) a))
