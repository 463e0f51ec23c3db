-- A reader need not believe this file: what the signals of a direction show over the first sections, as the code writes them.
use Rattle.std.specs.Prelude.{ℕ, zero, suc, ◌+◌, List, [], ◌∷◌, ◌++◌}
use Rattle.signals.specs.SignalSets.{shown}
use Rattle.signals.specs.declared.lights.Lights.{Lights}

unfoldable pub first_shown : Lights → ℕ → List ℕ
first_shown l zero = []
first_shown l (suc i) = first_shown l i ++ (shown l (i + 1) ∷ [])
