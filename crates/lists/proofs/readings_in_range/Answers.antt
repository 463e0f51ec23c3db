use Rattle.std.specs.Prelude.{◌↔◌, IsTrue}
use Rattle.std.specs.List.{AllPass}
use borrow.Author.Rules.{rules}
use Rattle.lists.proofs.Chunks.{test, in_range_where_all_pass}
use Rattle.lists.proofs.readings_in_range.Goals as goal

pub returns : goal.returns
returns c =
    let each : IsTrue c.all.result ↔ AllPass (test c.args.plan) c.as_chunks.result.0.now = search rules in
    in_range_where_all_pass _ _ _ _ c.as_chunks.ensures.front each
