use mathlib.Core.Path.{sym}
use native.Mathlib.Omega.{arith}
use Rattle.keys.proofs.Accepted.{limits, right_there}
use Rattle.keys.proofs.SixBytes.{continuation_six}
use Rattle.keys.proofs.part_after.Goals as goal

pub copy_from_slice-requires : goal.copy_from_slice-requires
copy_from_slice-requires c = sym (continuation_six _ _ (limits c.args.q.now).0 _ c.requires)

pub key_part-requires-clause-events_len_bound : goal.key_part-requires-clause-events_len_bound
key_part-requires-clause-events_len_bound c = let l = limits c.args.q.now in (l.1, omega (arith, c.from-limit.ensures, l.0))

pub key_part-requires-clause-events_value : goal.key_part-requires-clause-events_value
key_part-requires-clause-events_value c = right_there c.args.q.now
