-- No text is longer than the lines of the longest key and a total. From the refusals' numbers and the bound of keys.
use Rattle.std.proofs.Common.{◌≡◌, ℕ, ◌≤◌, Bool, true, false, eqb, List, length, refl, arith, length-append, eqb-true}
use Rattle.paper.specs.Read.{read_of}
use Rattle.paper.proofs.RefusalsBelow.{read_below}
use Rattle.keylaws.proofs.AfterContinuation.{after_the_start}
use Rattle.keylaws.proofs.KeyIsBounded.{key_few}
use Rattle.keytext.specs.Text.{lines, total_label, refused_label, total}
use Rattle.keytext.proofs.DecimalLaws.{decimal_short}
use Rattle.keytext.proofs.LineLaws.{labelled_length}
use Rattle.keys.specs.Key.{question_in, rules, key_of}
use Rattle.keys.proofs.Accepted.{bounded}
use Rattle.printing.specs.Printed.{printed}
use Rattle.printing.specs.Pieces.{start}
use Rattle.printing.proofs.LeftLaws.{lines_fit}

-- 271,453 lines of 20 bytes, and 27 bytes
pub text_short : (bytes : List ℕ) → length (printed bytes) ≤ 5429087
unfolding printed
text_short bytes = go (eqb (read_of bytes).refusal 0) refl
  where
    go : (b : Bool) → eqb (read_of bytes).refusal 0 ≡ b → length (printed bytes) ≤ 5429087
    go true e =
        let q = question_in bytes in
        let ok = eqb-true _ 0 e in
        let b = bounded bytes ok in
        let n = length (key_of q) in
        let few = key_few (rules q) q.length q.situation b.0 b.2 in
        let fit = rw (after_the_start (rules q) q.length q.situation) at (lines_fit bytes ok start) in
        rw e (omega (arith, length-append (lines (key_of q)) (total n), labelled_length total_label n, decimal_short 19 n (omega arith)))
    go false e = rw e (omega (arith, labelled_length refused_label (read_of bytes).refusal, decimal_short 1 (read_of bytes).refusal (omega (arith, read_below bytes))))
