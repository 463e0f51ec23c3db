-- "The fresh one: link 1, all else 0." It is sound in every plan. Assumes nothing.
use mathlib.Core.Bool.{not}
use mathlib.Core.Path.{refl, sym, subst}
use lib.Dec.{T}
use Rattle.words.specs.Words.{◌and◌}
use Rattle.sections.specs.Sections.{none, ◌belongs_to◌, sections_up_to}
use Rattle.words.proofs.Tests.{and_of}
use Rattle.sections.proofs.SetLaws.{none_has, none_up_to}
use Rattle.block.specs.Line.{first_section, entrance}
use Rattle.rulebook.specs.Situation.{fresh}
use Rattle.rulebook.specs.Sound.{held_sound, sets_sound, watch_sound, sound_in_2024, exclusions_kept}
use Rattle.block.specs.declared.line.Plan.{Plan}
use Rattle.block.specs.declared.line.Direction.{Direction}
use Rattle.block.specs.declared.line.Direction.TheVariants.{TowardsA, TowardsB}
use Rattle.rulebook.proofs.ExclusionsKept.{none_annulled}
use Rattle.rulebook.specs.Laws.{FreshSound}

none_held : (q : Plan) (d : Direction) → T (sections_up_to q.sections none and not (first_section q (entrance d) belongs_to none))
none_held q d =
    and_of (sections_up_to q.sections none) (not (first_section q (entrance d) belongs_to none)) (none_up_to q.sections)
    (subst (λ v. T (not v)) (sym (none_has (first_section q (entrance d)))) tt)

pub fresh_sound : FreshSound
fresh_sound q =
    and_of (sound_in_2024 q fresh) (exclusions_kept q fresh)
    (and_of (sets_sound q fresh) (watch_sound fresh)
    (and_of (sections_up_to q.sections none and held_sound q fresh TowardsB) (held_sound q fresh TowardsA)
    (and_of (sections_up_to q.sections none) (held_sound q fresh TowardsB) (none_up_to q.sections) (none_held q TowardsB))
    (none_held q TowardsA)) tt) (none_annulled q fresh refl refl)
