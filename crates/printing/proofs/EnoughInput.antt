-- 80 bytes of any input give the text of all of it: a question has at most 79, and whatever is longer is refused. From the law of the longest question.
use Rattle.std.proofs.Common.{◌≡◌, ℕ, ◌≤◌, Bool, true, false, leb, length, take, refl, ap, arith, length-take-le, take_all, leb-false, leb-true}
use Rattle.paper.proofs.Longest.{longer_than_79_is_refused}
use Rattle.printing.specs.Printed.{printed, Enough}

pub enough_input : (n : ℕ) → 80 ≤ n → Enough n
unfolding printed
enough_input n h bytes = go (leb (length bytes) n) refl
  where
    go : (b : Bool) → leb (length bytes) n ≡ b → printed (take n bytes) ≡ printed bytes
    go true e = ap printed (take_all n bytes (leb-true (length bytes) n e))
    go false e =
        let l = leb-false (length bytes) n e in
        let cut = length-take-le n bytes (omega arith) in
        rw (longer_than_79_is_refused (take n bytes) (omega arith), longer_than_79_is_refused bytes (omega arith))
