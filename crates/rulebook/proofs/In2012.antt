-- (02, Req 05) What is sound in 2012, section by section; and that no events lead elsewhere: soundness is kept. Assumes nothing.
use mathlib.Core.Bool.{Bool, true, false≢true}
use mathlib.Core.Path.{◌≡◌, refl, ap, ap₂, ◌∙◌}
use borrow.Author.Tests.{le-leb}
use lib.Dec.{T}
use Rattle.words.specs.Words.{◌and◌}
use Rattle.words.proofs.Tests.{and_at, and_of}
use Rattle.block.specs.Line.{owner, same_station}
use Rattle.block.proofs.PlanLaws.{within}
use Rattle.rulebook.specs.Situation.{Kept, station}
use Rattle.rulebook.specs.Place.{held_in_area}
use Rattle.rulebook.specs.Sound.{sound_in_2024, exclusions_kept}
use Rattle.rulebook.specs.Apply.{after_events}
use Rattle.block.specs.declared.line.Plan.{Plan}
use Rattle.block.specs.declared.line.Name.{Name}
use Rattle.block.specs.declared.line.Name.TheVariants.{StationA, StationB}
use Rattle.rulebook.proofs.Frame.{orders}
use Rattle.rulebook.proofs.ExclusionsKept.{none_held, held_none, no_pair, pair_not, no_pairs, pairs_not}
use Rattle.rulebook.proofs.SoundnessKept.{sound_after}
use Rattle.rulebook.specs.Laws.{AnnulledExclude, SoundExactly, SoundIn2012, WhicheverComesFirst}

itself : (s : Name) → same_station s s ≡ true
itself StationA = refl
itself StationB = refl

one_station : (s t : Name) → same_station s t ≡ true → s ≡ t
one_station StationA StationA e = refl
one_station StationA StationB e = absurd (false≢true e)
one_station StationB StationA e = absurd (false≢true e)
one_station StationB StationB e = refl

module _ (p : Plan) (old : p.rules2012 ≡ true) (x : Kept) where
  abbrev together : Bool
  together = exclusions_kept p x

  excluding : T together → AnnulledExclude p x
  excluding t s a =
      let h = no_pair (orders (station x s)) (held_in_area p s x) (no_pairs p x t old s) a in
      record {
        no_bilc = h.0;
        no_bslg = h.1;
        no_bslb = λ k is own d.
            let w = within p k is in
            none_held p s x.signals.held h.2 k w.least w.most (ap (λ (n : Name). same_station n s) own ∙ itself s) d;
      }

  excluded : AnnulledExclude p x → T together
  excluded f =
      pairs_not p x λ _ s. pair_not (orders (station x s)) (held_in_area p s x) λ a.
      let h = f s a in (
        h.no_bilc,
        h.no_bslg,
        held_none p s x.signals.held (λ k low high there d. h.no_bslb k (ap₂ ◌and◌ (le-leb 1 k low) (le-leb k p.sections high)) (one_station (owner p k) s there) d),
      )

  exactly : SoundExactly p x
  exactly =
      record {
        excludes = λ t. let h = and_at (sound_in_2024 p x) together t in (and_of (sound_in_2024 p x) true h.0 tt, excluding h.1);
        enough = λ t f. and_of (sound_in_2024 p x) together (and_at (sound_in_2024 p x) true t).0 (excluded f);
      }

pub sound_in_2012 : SoundIn2012
sound_in_2012 p old x = exactly p old x

pub whichever_comes_first : WhicheverComesFirst
whichever_comes_first p plan old x t events =
    let y : Kept = after_events p x events in
    ((sound_in_2012 p old y).excludes (sound_after p plan x t events)).1
