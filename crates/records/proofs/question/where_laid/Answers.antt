-- Assumes nothing.
use mathlib.Core.Path.{◌∙◌}
use native.Mathlib.Omega.{arith}
use Rattle.forms.proofs.InTurn.{not_there}
use Rattle.records.proofs.RecordLaws.{plan_law, situation_law, events_law, readings_law, answer_length_law}
use Rattle.records.proofs.QuestionRead.{is_found, front_written, events_behind, readings_behind, length_behind, none_laid, no_plan, no_situation, no_events, no_readings, no_length, left_over, all_laid}
use Rattle.records.proofs.question.where_laid.Goals as goal

pub returns-in_err-take_plan : goal.returns-in_err-take_plan
returns-in_err-take_plan c =
    let s = c.args.bytes.now in
    rw c.from_residual.ensures (none_laid s (no_plan s (not_there plan_law s c.in_err-take_plan.ensures)))

pub returns-in_err-take_situation : goal.returns-in_err-take_situation
returns-in_err-take_situation c =
    let s = c.args.bytes.now in
    let lb = is_found plan_law c.in_ok-take_plan.ensures in
    rw c.from_residual-in_err-take_situation.ensures
    (none_laid s (no_situation s lb c.split_at.ensures.back (not_there situation_law _ c.in_err-take_situation.ensures)))

pub returns-in_err-take_events : goal.returns-in_err-take_events
returns-in_err-take_events c =
    let s = c.args.bytes.now in
    let lb = is_found plan_law c.in_ok-take_plan.ensures in
    let x = is_found situation_law c.in_ok-take_situation.ensures in
    rw c.from_residual-in_err-take_events.ensures
    (none_laid s (no_events s lb c.split_at.ensures.back x c.split_at-2.ensures.back (not_there events_law _ c.in_err-take_events.ensures)))

pub returns-in_err-take_readings : goal.returns-in_err-take_readings
returns-in_err-take_readings c =
    let s = c.args.bytes.now in
    let lb = is_found plan_law c.in_ok-take_plan.ensures in
    let x = is_found situation_law c.in_ok-take_situation.ensures in
    let es = is_found events_law c.in_ok-take_events.ensures in
    rw c.from_residual-in_err-take_readings.ensures
    (none_laid s (no_readings s lb c.split_at.ensures.back x c.split_at-2.ensures.back es c.split_at-3.ensures.back (not_there readings_law _ c.in_err-take_readings.ensures)))

pub returns-in_err-take_length : goal.returns-in_err-take_length
returns-in_err-take_length c =
    let s = c.args.bytes.now in
    let lb = is_found plan_law c.in_ok-take_plan.ensures in
    let x = is_found situation_law c.in_ok-take_situation.ensures in
    let es = is_found events_law c.in_ok-take_events.ensures in
    let rs = is_found readings_law c.in_ok-take_readings.ensures in
    rw c.from_residual-in_err-take_length.ensures
    (none_laid s (no_length s lb c.split_at.ensures.back x c.split_at-2.ensures.back es c.split_at-3.ensures.back rs c.split_at-4.ensures.back (not_there answer_length_law _ c.in_err-take_length.ensures)))

pub returns-then-branch-ln : goal.returns-then-branch-ln
returns-then-branch-ln c =
    let s = c.args.bytes.now in
    let lb = is_found plan_law c.in_ok-take_plan.ensures in
    let x = is_found situation_law c.in_ok-take_situation.ensures in
    let es = is_found events_law c.in_ok-take_events.ensures in
    let rs = is_found readings_law c.in_ok-take_readings.ensures in
    let n = is_found answer_length_law c.in_ok-take_length.ensures in
    left_over s lb c.split_at.ensures.back x c.split_at-2.ensures.back es c.split_at-3.ensures.back rs c.split_at-4.ensures.back n c.if-branch-ln.true

pub slice_bounds-result-count : goal.slice_bounds-result-count
slice_bounds-result-count c =
    let es = is_found events_law c.in_ok-take_events.ensures in
    (events_behind es.what (c.split_at-3.ensures.front ∙ front_written events_law es)).0

pub slice_bounds-result-count-2 : goal.slice_bounds-result-count-2
slice_bounds-result-count-2 c =
    let rs = is_found readings_law c.in_ok-take_readings.ensures in
    (readings_behind rs.what (c.split_at-4.ensures.front ∙ front_written readings_law rs)).0

pub slice_bounds-result-start : goal.slice_bounds-result-start
slice_bounds-result-start c =
    let es = is_found events_law c.in_ok-take_events.ensures in
    omega (arith, (events_behind es.what (c.split_at-3.ensures.front ∙ front_written events_law es)).0)

pub slice_bounds-result-start-2 : goal.slice_bounds-result-start-2
slice_bounds-result-start-2 c =
    let rs = is_found readings_law c.in_ok-take_readings.ensures in
    omega (arith, (readings_behind rs.what (c.split_at-4.ensures.front ∙ front_written readings_law rs)).0)

pub bounds-ln-2 : goal.bounds-ln-2
bounds-ln-2 c = omega (arith, (length_behind (is_found answer_length_law c.in_ok-take_length.ensures)).0)

pub returns : goal.returns
returns c =
    let s = c.args.bytes.now in
    let lb = is_found plan_law c.in_ok-take_plan.ensures in
    let x = is_found situation_law c.in_ok-take_situation.ensures in
    let es = is_found events_law c.in_ok-take_events.ensures in
    let rs = is_found readings_law c.in_ok-take_readings.ensures in
    let n = is_found answer_length_law c.in_ok-take_length.ensures in
    all_laid s lb c.split_at.ensures.back x c.split_at-2.ensures.back es c.split_at-3.ensures.back rs c.split_at-4.ensures.back n c.if-branch-ln.false
    (c.split_at.ensures.front ∙ front_written plan_law lb)
    (c.split_at-2.ensures.front ∙ front_written situation_law x)
    (events_behind es.what (c.split_at-3.ensures.front ∙ front_written events_law es)).1
    (readings_behind rs.what (c.split_at-4.ensures.front ∙ front_written readings_law rs)).1
    (length_behind n).1
