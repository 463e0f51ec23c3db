use mathlib.Core.Path.{sym, ◌∙◌}
use borrow.Author.Rules.{rules}
use Rattle.block.proofs.Told.{not_accepted}
use Rattle.paper.proofs.Accepted.{counts_right}
use Rattle.questions.proofs.RefusedQuestions.{by_counts, by_judged, by_lists}
use Rattle.questions.proofs.judge.refusal_of.Goals as goal

pub returns-then-not-counts_in_range : goal.returns-then-not-counts_in_range
returns-then-not-counts_in_range c = by_counts c.args.q (sym c.counts_in_range.ensures ∙ c.if-not-counts_in_range.true)

pub returns-in_err-judged : goal.returns-in_err-judged
returns-in_err-judged c =
    let first = by_judged c.args.q (sym c.counts_in_range.ensures ∙ c.if-not-counts_in_range.false) c.in_err-judged.ensures (not_accepted _) in
    search rules

pub items_refusal-requires : goal.items_refusal-requires
items_refusal-requires c = let k = counts_right _ _ (sym c.counts_in_range.ensures ∙ c.if-not-counts_in_range.false) in (k.1, k.2)

pub returns : goal.returns
returns c = by_lists c.args.q (sym c.counts_in_range.ensures ∙ c.if-not-counts_in_range.false) c.in_ok-judged.ensures c.items_refusal.ensures
