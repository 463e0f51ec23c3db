-- Assumes nothing.
use Prim.Native.Nat.{ℕ}
use mathlib.Core.Path.{◌≡◌, ap, ◌∙◌}
use mathlib.Core.List.{List}
use native.Mathlib.Omega.{arith}
use lib.ListN.{take, drop, get_or}
use lib.Seq.{get_or-drop}
use Rattle.std.proofs.lemmas.Option.{MatchOption-at_some}
use Rattle.situations.proofs.RecordParts.{codes_front}
use Rattle.situations.proofs.Record.new.Goals as goal

pub returns : goal.returns
returns c =
    let s = c.args.si.now in
    let cut = MatchOption-at_some _ _ _ c.unwrap.ensures c.split_first_chunk.ensures.cases in
    let front : c.unwrap.result.0.now ≡ take 21 s = cut.0 in
    let rest : c.unwrap.result.1.now ≡ drop 21 s = cut.1 in
    rw front
    (codes_front s (omega arith)
    (ap (λ (t : List ℕ). get_or t 0 0) rest ∙ get_or-drop 21 s 0 0)
    (ap (λ (t : List ℕ). get_or t 1 0) rest ∙ get_or-drop 21 s 1 0))
