-- Nothing here has to be believed: what each function of the walk puts into the room. That a part of the key comes of it is proved.
use Rattle.std.specs.Prelude.{ℕ, ◌+◌, ◌-◌, Bool, false, not, List, map, length, drop, get_or}
use Rattle.words.specs.Words.{◌and◌}
use Rattle.keylaws.specs.Rules.{Rules, Word}
use Rattle.keylaws.specs.Parts.{Part, handed}
use Rattle.keylaws.specs.Walk.{empty_off, tries, aims, starts, walk}
use Rattle.keylaws.specs.Sheet.{grows, put}
use Rattle.rulebook.specs.Situation.{Situation}
use Rattle.records.specs.InBytes.{events_in, readings_in}
use Rattle.rules.specs.RulesOf.{all_hold, rules_of}
use Rattle.engine.specs.declared.ask.Ask.{Ask}
use Rattle.engine.specs.declared.ask.Node.{Node}

-- words, as slots grown from the one of a node, after those that are written
abbrev pub added : Node → List ℕ → List Word → Part
added at room ws = put (handed room at.count false) (map (grows at.slot at.depth) ws)

-- whether the situation has an answer of its own
abbrev pub ends : Bool → Ask → Situation → Bool
ends on ask x = not on and all_hold ask.plan (readings_in ask.readings.now) x

-- the rules of what is asked
abbrev pub rules_asked : Ask → Rules
rules_asked ask = rules_of ask.plan (events_in ask.events.now) (readings_in ask.readings.now)

module _ (ask : Ask) (x : Situation) (at : Node) (room : List ℕ) where
  -- the situation's own answer
  abbrev pub own : Part
  own = added at room (empty_off at.on (all_hold ask.plan (readings_in ask.readings.now) x))

  -- the answers from the situation
  abbrev pub explored : Part
  explored = added at room (walk (rules_asked ask) at.left (drop (at.depth + 1) ask.from) at.on x)

  -- those that begin with one of its events, from a place on
  abbrev pub attempted_from : Bool → ℕ → Part
  attempted_from on place =
      added at room (tries (rules_asked ask) (walk (rules_asked ask) (at.left - 1) (drop (at.depth + 1 + 1) ask.from)) x on place (length (events_in ask.events.now) + 1 - place))

  abbrev pub attempted : Part
  attempted = let q = get_or ask.from (at.depth + 1) 0 in attempted_from (aims at.on q) (starts at.on q)
