-- A reader need not believe this file: what has been judged of a question before its events are tried, every event's code known and its argument right.
use Rattle.std.specs.Prelude.{Bool, true, List, [], ◌∷◌}
use Rattle.words.specs.Words.{◌and◌}
use Rattle.block.specs.declared.line.Plan.{Plan}
use Rattle.block.specs.declared.event.Event.{Event}
use Rattle.rulebook.specs.Apply.{known, argument_right}

unfoldable pub all_right : Plan → List Event → Bool
all_right p [] = true
all_right p (e ∷ rest) = (known e and argument_right p e) and all_right p rest
