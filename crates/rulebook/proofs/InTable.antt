-- What holds of every line of the table holds of every known code. A law of all events is one test that antt computes over the table, or
-- one equation of two lists that antt finds equal by computing. Assumes nothing.
use Prim.Native.Nat.{ℕ}
use mathlib.Core.Bool.{Bool, true, false, not}
use mathlib.Core.List.{List, [], ◌∷◌}
use mathlib.Core.Path.{◌≡◌, sym, ap}
use lib.Dec.{T, eqb, eqb→eq}
use Rattle.words.proofs.Tests.{if_case}
use Rattle.rulebook.specs.Table.{Kind, table, unknown, find, kind_of}

abbrev pub All : (Kind → Type 0) → List Kind → Type 0
All P [] = Unit
All P (e ∷ es) = P e × All P es

pub each_all : (P Q : Kind → Type 0) → ((e : Kind) → P e → Q e) → (es : List Kind) → All P es → All Q es
each_all P Q f [] a = tt
each_all P Q f (e ∷ es) a = (f e a.0, each_all P Q f es a.1)

-- ---- one test for all
abbrev then_rest : Bool → (Unit {0} → Bool) → Bool
then_rest true k = k tt
then_rest false k = false

abbrev pub passes : (Kind → Bool) → List Kind → Bool
passes t [] = true
passes t (e ∷ es) = then_rest (t e) (λ u. passes t es)

first_passes : (v : Bool) (k : Unit {0} → Bool) → T (then_rest v k) → T v
first_passes true k t = tt
first_passes false k t = t

rest_passes : (v : Bool) (k : Unit {0} → Bool) → T (then_rest v k) → T (k tt)
rest_passes true k t = t
rest_passes false k t = absurd t

pub by_test : (t : Kind → Bool) (es : List Kind) → T (passes t es) → All (λ e. T (t e)) es
by_test t [] h = tt
by_test t (e ∷ es) h = (first_passes (t e) (λ u. passes t es) h, by_test t es (rest_passes (t e) (λ u. passes t es) h))

-- ---- one equation for all
abbrev pub each : {X : Type 0} → (Kind → X) → List Kind → List X
each f [] = []
each f (e ∷ es) = f e ∷ each f es

head_or : {X : Type 0} → X → List X → X
head_or d [] = d
head_or d (a ∷ l) = a

tail : {X : Type 0} → List X → List X
tail [] = []
tail (a ∷ l) = l

pub by_equation : {X : Type 0} (f g : Kind → X) (es : List Kind) → each f es ≡ each g es → All (λ e. f e ≡ g e) es
unfolding head_or tail
by_equation f g [] h = tt
by_equation f g (e ∷ es) h = (ap (head_or (f e)) h, by_equation f g es (ap tail h))

-- ---- from the table to the codes
pub found : (P : Kind → Type 0) (es : List Kind) → All P es → P unknown → (c : ℕ) → P (find c es)
found P [] a u c = u
found P (e ∷ es) a u c = if_case P (eqb c e.code) e (find c es) (λ t. a.0) (λ t. found P es a.1 u c)

-- the code is that of a kind
abbrev pub Known : ℕ → Type 0
Known c = T (not (eqb (kind_of c).argument 0))

pub at_code : (P : Kind → Type 0) → All P table → (c : ℕ) → Known c → P (kind_of c)
at_code P a c =
    let Q : Kind → Type 0 = λ e. T (not (eqb e.argument 0)) → P e in
    found Q table (each_all P Q (λ e p t. p) table a) (λ t. absurd t) c

has_code : (es : List Kind) (c : ℕ) → T (not (eqb (find c es).argument 0)) → (find c es).code ≡ c
has_code [] c = λ t. absurd t
has_code (e ∷ es) c =
    if_case (λ f. T (not (eqb f.argument 0)) → f.code ≡ c) (eqb c e.code) e (find c es)
    (λ t k. sym (eqb→eq c e.code t)) (λ t. has_code es c)

pub its_code : (c : ℕ) → Known c → (kind_of c).code ≡ c
its_code = has_code table
