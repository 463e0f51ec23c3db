-- Both exit signals are off red together only where a station is under AFBLE: an exit signal that is off red has its area's direction out, which is
-- AFBLE's or the orientation, and not both stations are oriented out. Assumes nothing.
use Rattle.std.specs.Prelude.{if◌then◌else◌}
use mathlib.Core.Bool.{Bool, true, false}
use mathlib.Core.Path.{◌≡◌, refl, subst}
use native.Mathlib.Omega.{arith}
use borrow.Author.Tests.{eq-eqb}
use lib.Dec.{T}
use Rattle.words.specs.Words.{◌and◌, ◌or◌}
use Rattle.words.proofs.Tests.{and_of, holds_is}
use Rattle.block.specs.Line.{is_plan, first_section, entrance}
use Rattle.block.specs.declared.line.Plan.{Plan}
use Rattle.block.specs.declared.line.Name.{Name}
use Rattle.block.specs.declared.line.Name.TheVariants.{StationA, StationB}
use Rattle.block.specs.declared.line.Direction.{Direction}
use Rattle.block.specs.declared.line.Direction.TheVariants.{TowardsA, TowardsB}
use Rattle.block.proofs.PlanLaws.{Sized, sized}
use Rattle.rulebook.specs.Situation.{Station, Kept, station, area_direction, out, inward, ◌is_out, ◌under_AFBLI, ◌under_AFBLE}
use Rattle.rulebook.specs.Apply.{after_events}
use Rattle.aspects.specs.Aspects.{block_open, exit_open, is_open}
use Rattle.aspects.specs.Covering.{is_off_red}
use Rattle.aspects.specs.Laws.{exit_signal, BothExits}
use Rattle.aspects.proofs.Opposing.{covering_open, exit_leaves}
use Rattle.aspects.proofs.FirstRule.{first_rule}

exit_opens : (p : Plan) (x : Kept) (d : Direction) → T (is_open p x d (first_section p (entrance d))) → T (area_direction (station x (entrance d))).out
exit_opens p x d t =
    let k = first_section p (entrance d) in
    exit_leaves p x d k (subst (λ (v : Bool). T (if v then exit_open p x d k else block_open p x d k)) (eq-eqb k k refl) t)

out_by : (t : Station) → T (area_direction t).out → T (t under_AFBLE or t is_out)
out_by t = go (t under_AFBLE) (t under_AFBLI)
  where
    go : (afble afbli : Bool) → T (if afble then out else if afbli then inward else t.orientation).out → T (afble or t is_out)
    go true afbli u = tt
    go false true u = absurd u
    go false false u = u

exit_out_by : (p : Plan) → T (is_plan p) → (x : Kept) (s : Name) → T (is_off_red p x (exit_signal p s)) → T (station x s under_AFBLE or station x s is_out)
exit_out_by p plan x StationA t = out_by (station x StationA) (exit_opens p x TowardsB (covering_open p x TowardsB 1 (omega arith) t))
exit_out_by p plan x StationB t =
    let n : Sized p = sized p (holds_is (is_plan p) plan) in
    out_by (station x StationB) (exit_opens p x TowardsA (covering_open p x TowardsA p.sections (omega arith) t))

one_under_AFBLE : (a b out-a out-b : Bool) → T (a or out-a) → T (b or out-b) → (out-a and out-b) ≡ false → T (a or b)
one_under_AFBLE true b out-a out-b t u none = tt
one_under_AFBLE false true out-a out-b t u none = tt
one_under_AFBLE false false out-a out-b t u none = absurd (subst T none (and_of out-a out-b t u))

pub both_exits : BothExits
both_exits p plan x s events a b =
    let y = after_events p x events in
    one_under_AFBLE (station y StationA under_AFBLE) (station y StationB under_AFBLE) (station y StationA is_out) (station y StationB is_out)
    (exit_out_by p plan y StationA a) (exit_out_by p plan y StationB b) (first_rule p plan x s events).orientations
