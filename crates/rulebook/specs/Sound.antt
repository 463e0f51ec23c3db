-- "A situation is sound if all codes are in range and: .."
use Rattle.std.specs.Prelude.{Bool, not, leb}
use Rattle.words.specs.Words.{◌and◌, ◌or◌, ◌implies◌}
use Rattle.sections.specs.Sections.{◌belongs_to◌, sections_up_to}
use Rattle.block.specs.Line.{first_section, entrance}
use Rattle.rulebook.specs.Place.{held_in_area}
use Rattle.rulebook.specs.Situation.{Station, Track, Situation, Kept, station, ◌is_out, ◌is_in, ◌is_none, ◌annulled, ◌under_AFBLI, ◌has_exit_route, any_exit_route, none_occupied, count_runs, one_out_one_in, both_none, held}
use Rattle.block.specs.declared.line.Plan.{Plan}
use Rattle.block.specs.declared.line.Name.{Name}
use Rattle.block.specs.declared.line.Name.TheVariants.{StationA, StationB}
use Rattle.block.specs.declared.line.Direction.{Direction}
use Rattle.block.specs.declared.line.Direction.TheVariants.{TowardsA, TowardsB}

module _ (t : Station) where
  -- "all codes are in range": no code has two of its values at once
  abbrev pub codes_in_range : Bool
  codes_in_range = not (t is_out and t is_in) and not (t.annulment.afbli and t.annulment.afble) and not (t.exit.normal and t.exit.special)

  -- "an annulled station has orientation none"
  abbrev pub annulled_is_none : Bool
  annulled_is_none = t annulled implies t is_none

  -- "a station with an exit route has BILC off and orientation not "in""
  abbrev pub routed_is_open : Bool
  routed_is_open = t has_exit_route implies (not t.bilc and not (t is_in))

  -- "a normal route goes with annulment none, a special one not with AFBLI"
  abbrev pub normal_not_annulled : Bool
  normal_not_annulled = t.exit.normal implies not (t annulled)

  abbrev pub special_not_AFBLI : Bool
  special_not_AFBLI = t.exit.special implies not (t under_AFBLI)

  abbrev pub station_sound : Bool
  station_sound = codes_in_range and annulled_is_none and routed_is_open and normal_not_annulled and special_not_AFBLI

module _ (x : Situation) where
  -- "with link up, orientations are one out and one in, or both none"
  abbrev pub link_up_agrees : Bool
  link_up_agrees = x.traffic.link implies (one_out_one_in x or both_none x)

  -- "with link down, not both out and not both in"
  abbrev pub link_down_apart : Bool
  link_down_apart = not x.traffic.link implies (not (x.traffic.own is_out and x.traffic.other is_out) and not (x.traffic.own is_in and x.traffic.other is_in))

  -- "a pending SOBB needs link up, and its asker neither annulled nor oriented out"
  abbrev pub may_ask : Station → Bool
  may_ask t = x.traffic.link and not (t annulled) and not (t is_out)

  abbrev pub pending_sound : Bool
  pending_sound = not (x.traffic.pending.own and x.traffic.pending.other) and (x.traffic.pending.own implies may_ask x.traffic.own) and (x.traffic.pending.other implies may_ask x.traffic.other)

  abbrev pub stations_sound : Bool
  stations_sound = station_sound x.traffic.own and station_sound x.traffic.other and link_up_agrees and link_down_apart and pending_sound

-- (02, Req 02) of the track, and of whether a station has an exit route
module _ (t : Track) (routed : Bool) where
  -- "A sound situation has a count of 0 to 10"
  abbrev pub count_in_range : Bool
  count_in_range = leb t.watch.count 10

  -- "a count above 0 only with the mark set and no section occupied"
  abbrev pub count_explained : Bool
  count_explained = count_runs t.watch implies (t.watch.mark and none_occupied t)

  -- "a mark only with no exit route and either a section occupied or a count above 0"
  abbrev pub mark_explained : Bool
  mark_explained = t.watch.mark implies (not routed and (not (none_occupied t) or count_runs t.watch))

  abbrev pub watched_right : Bool
  watched_right = count_in_range and count_explained and mark_explained

abbrev pub watch_sound : Situation → Bool
watch_sound x = watched_right x.traffic.track (any_exit_route x)

-- (02, Req 05) "Under 2012, AFBLI and AFBLE exclude BILC, BSLG and any BSLB in the station's own area": of the station t, which is s
abbrev pub such_a_pair : Plan → Name → Station → Situation → Bool
such_a_pair p s t x = t annulled and (t.bilc or t.bslg or held_in_area p s x)

module _ (p : Plan) (x : Kept) where
  -- "A set bit that names .. no section or an exit signal gives 2." BSLB holds block signals only
  abbrev pub held_sound : Direction → Bool
  held_sound d = sections_up_to p.sections (held x d) and not (first_section p (entrance d) belongs_to held x d)

  abbrev pub sets_sound : Bool
  sets_sound = sections_up_to p.sections x.traffic.track.occupied and held_sound TowardsB and held_sound TowardsA

  -- what document 01 and request 02 ask
  abbrev pub sound_in_2024 : Bool
  sound_in_2024 = stations_sound x and sets_sound and watch_sound x

  -- "In that edition a situation with such a pair is not sound."
  abbrev pub exclusions_kept : Bool
  exclusions_kept = p.rules2012 implies not (such_a_pair p StationA (station x StationA) x or such_a_pair p StationB (station x StationB) x)

  abbrev pub sound : Bool
  sound = sound_in_2024 and exclusions_kept
