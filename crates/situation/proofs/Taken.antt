-- What becomes of an annulment when a section is occupied, and when an occupation is a stray one. Assumes nothing.
use Rattle.std.specs.Prelude.{if◌then◌else◌}
use Prim.Native.Nat.{ℕ}
use mathlib.Core.Path.{◌≡◌, refl, sym, ap, ap₂, ◌∙◌}
use mathlib.Core.Bool.{Bool, true, false, not, true≢false, false≢true}
use Rattle.words.specs.Words.{◌and◌, ◌or◌}
use Rattle.sections.specs.Sections.{◌with_section◌}
use Rattle.block.specs.Line.{is_first, opposite, away, toward}
use Rattle.rulebook.specs.Place.{Place, follows, expected}
use Rattle.rulebook.specs.Situation.{Situation, area_direction, any_exit_route, ◌has_exit_route, no_annulment, ◌annulled, ◌annulled_by◌, with_own_station, with_track, with_occupied}
use Rattle.rulebook.specs.Events.{annulment_kept, watch_taken, taken}
use Rattle.block.specs.declared.codes.Annulment.{Annulment}
use Rattle.block.specs.declared.line.Plan.{Plan}
use Rattle.block.specs.declared.line.Name.{Name}

pub or_true : (b : Bool) → (b or true) ≡ true
or_true true = refl
or_true false = refl

pub not_so : (b : Bool) → not b ≡ true → b ≡ false
not_so true e = absurd (false≢true e)
not_so false e = refl

unset : (i e : Bool) → (i or e) ≡ false → ◌≡◌ {A = Annulment} no_annulment (record { afbli = i; afble = e })
unset true e h = absurd (true≢false h)
unset false true h = absurd (true≢false h)
unset false false h = refl

either : (kept : Bool) (a : Annulment) → (a.afbli or a.afble) ≡ false → a ≡ (if kept then a else no_annulment)
either true a h = refl
either false a h = sym (unset a.afbli a.afble h)

-- the sections occupied, as the code makes them
pub occupied_too : (x : Situation) {y : Situation} {m n : ℕ} → y ≡ with_track (with_occupied m x.traffic.track) x → m ≡ n → y ≡ with_track (with_occupied n x.traffic.track) x
occupied_too x e f = e ∙ ap (λ (m : ℕ). with_track (with_occupied m x.traffic.track) x) f

module _ (at : Place) (x : Situation) where
  abbrev with_k : Situation
  with_k = with_track (record { occupied = x.traffic.track.occupied with_section at.section; watch = watch_taken at x }) x

  pub not_annulled : (x.traffic.own annulled) ≡ false → with_k ≡ taken at x
  not_annulled h = ap (λ a. with_own_station (x.traffic.own annulled_by a) with_k) (either (annulment_kept at x) x.traffic.own.annulment h)

  pub kept : annulment_kept at x ≡ true → with_k ≡ taken at x
  kept h = ap (λ v. with_own_station (x.traffic.own annulled_by (if v then x.traffic.own.annulment else no_annulment)) with_k) (sym h)

  pub goes : annulment_kept at x ≡ false → with_own_station (x.traffic.own annulled_by no_annulment) with_k ≡ taken at x
  goes h = ap (λ v. with_own_station (x.traffic.own annulled_by (if v then x.traffic.own.annulment else no_annulment)) with_k) (sym h)

-- ---- a stray occupation: where neither station has an exit route only the section before is asked
neither_so : (a b : Bool) → (a or b) ≡ false → (a ≡ false) × (b ≡ false)
neither_so true b e = absurd (true≢false e)
neither_so false b e = (refl, e)

none_enters : (first routed follows : Bool) → routed ≡ false → (first and routed or follows) ≡ follows
none_enters true true f e = absurd (true≢false e)
none_enters true false f e = refl
none_enters false r f e = refl

module _ (p : Plan) (s : Name) (k : ℕ) (x : Situation) (none : any_exit_route x ≡ false) where
  routes : ((x.traffic.own has_exit_route) ≡ false) × ((x.traffic.other has_exit_route) ≡ false)
  routes = neither_so (x.traffic.own has_exit_route) (x.traffic.other has_exit_route) none

  pub expected_follows : expected p s k x ≡ (((area_direction x.traffic.own).out and follows p x k (away s)) or ((area_direction x.traffic.own).inward and follows p x k (toward s)))
  expected_follows =
      ap₂ (λ (a b : Bool). ((area_direction x.traffic.own).out and a) or ((area_direction x.traffic.own).inward and b))
      (none_enters (is_first p s k) (x.traffic.own has_exit_route) (follows p x k (away s)) routes.0)
      (none_enters (is_first p (opposite s) k) (x.traffic.other has_exit_route) (follows p x k (toward s)) routes.1)
