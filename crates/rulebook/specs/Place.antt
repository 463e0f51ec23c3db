-- Where an event happens: what its bytes name, and what is read off the line there. A row looks at nothing else beside the situation.
use Rattle.std.specs.Prelude.{ℕ, Bool, not}
use Rattle.words.specs.Words.{◌and◌, ◌or◌}
use Rattle.sections.specs.Sections.{◌belongs_to◌}
use Rattle.block.specs.Line.{some_section, in_area, is_first, opposite, away, toward, before, across_frontier}
use Rattle.rulebook.specs.Situation.{Station, Situation, area_direction, held, ◌has_exit_route}
use Rattle.rulebook.specs.Situation as situation
use Rattle.block.specs.declared.line.Plan.{Plan}
use Rattle.block.specs.declared.event.Spot.{Spot}
use Rattle.block.specs.declared.line.Name.{Name}
use Rattle.block.specs.declared.line.Direction.{Direction}
use Rattle.block.specs.declared.line.Direction.TheVariants.{TowardsA, TowardsB}

-- ---- "Occupied k, owner s. It is expected if .." x is the situation as s sees it: own is s.
-- "k is the section where trains enter the line in that direction and the station there has an exit route"
abbrev pub enters : Plan → ℕ → Name → Station → Bool
enters p k there station = is_first p there k and station has_exit_route

-- "the section before k in that direction is occupied; across the frontier that counts only with link up"
abbrev pub follows : Plan → Situation → ℕ → Direction → Bool
follows p x k d = (before d k belongs_to x.traffic.track.occupied) and (x.traffic.link or not (across_frontier p (before d k) k))

module _ (p : Plan) (s : Name) (k : ℕ) (x : Situation) where
  -- out of s trains enter the line at s, into s at the other station
  abbrev pub expected_out : Bool
  expected_out = enters p k s x.traffic.own or follows p x k (away s)

  abbrev pub expected_in : Bool
  expected_in = enters p k (opposite s) x.traffic.other or follows p x k (toward s)

  -- "s's area has a direction and either .. or .."
  abbrev pub expected : Bool
  expected = ((area_direction x.traffic.own).out and expected_out) or ((area_direction x.traffic.own).inward and expected_in)

-- ---- (02, Req 05) "any BSLB in the station's own area": a held signal of either direction whose section is in the area
abbrev pub held_in_area : Plan → Name → Situation → Bool
held_in_area p s x = some_section p (λ k. in_area p s k and ((k belongs_to held x TowardsB) or (k belongs_to held x TowardsA)))

pub record Place : Type 0 where
  pub plan : Plan
  pub own : Name
  pub section : ℕ
  pub direction : Direction
  -- the section is own's first one
  pub first : Bool
  -- that it becomes occupied is expected
  pub expected : Bool
  -- no section of the line is occupied, and no count runs
  pub track_free : Bool
  -- BSLB holds a signal in own's area
  pub held_here : Bool

abbrev pub place : Spot → Situation → Place
place at x =
    record {
      plan = at.plan;
      own = at.own;
      section = at.section;
      direction = at.direction;
      first = is_first at.plan at.own at.section;
      expected = expected at.plan at.own at.section x;
      track_free = situation.track_free x.traffic.track;
      held_here = held_in_area at.plan at.own x;
    }
