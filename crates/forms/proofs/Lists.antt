-- So many values of one form, and a count before them. Assumes nothing.
use Prim.Native.Nat.{ℕ, zero, suc}
use mathlib.Core.Path.{◌≡◌, refl, sym, ap, ◌∙◌}
use mathlib.Core.Bool.{true}
use mathlib.Core.List.{List, [], ◌∷◌, ◌++◌, append_assoc}
use native.Mathlib.Omega.{arith}
use borrow.Author.Tests.{eq-eqb, eqb-true}
use lib.ListN.{length}
use lib.Dec.{eqb, leb}
use Rattle.words.specs.Words.{◌and◌}
use Rattle.forms.specs.Form.{found, Form}
use Rattle.forms.specs.Compose.{all, each_written, each_read, counted, counted_read}
use Rattle.forms.specs.Choices.{times, all_zero}
use Rattle.forms.specs.Laws.{Lawful, Alone}
use Rattle.forms.proofs.Reading.{both, both_of, not_nothing, same_value, same_rest, before, passed}

module _ {A : Type 0} {F : Form A} (L : Lawful F) where
  each_back : (items : List A) (rest : List ℕ) → all F.writes items ≡ true → each_read F (length items) (each_written F items ++ rest) ≡ found items rest
  each_back [] rest h = refl
  each_back (a ∷ items) rest h =
      let w = both (F.writes a) (all F.writes items) h in
      rw (append_assoc (F.written a) (each_written F items) rest, L.back a (each_written F items ++ rest) w.0, each_back items rest w.1)

  record Each (n : ℕ) (s : List ℕ) (items : List A) (rest : List ℕ) : Type 0 where
    size : length items ≡ n
    writes : all F.writes items ≡ true
    written : s ≡ each_written F items ++ rest

  each_one : (n : ℕ) (s : List ℕ) (items : List A) (rest : List ℕ) → each_read F n s ≡ found items rest → Each n s items rest
  each_one zero s items rest e =
      let v : [] ≡ items = same_value e in
      let r : s ≡ rest = same_rest e in
      record { size = ap length (sym v); writes = ap (all F.writes) (sym v); written = rw (← v, r) }
  each_one (suc n) s items rest e =
      let f = before (F.read s) _ e in
      let g = before (each_read F n f.rest) _ f.next_found in
      let a = L.one s f.value f.rest f.first in
      let b = each_one n f.rest g.value g.rest g.first in
      let v : f.value ∷ g.value ≡ items = same_value g.next_found in
      let r : g.rest ≡ rest = same_rest g.next_found in
      record {
        size = ap length (sym v) ∙ ap suc b.size;
        writes = ap (all F.writes) (sym v) ∙ both_of a.0 b.writes;
        written =
            a.1 ∙ ap (λ (t : List ℕ). F.written f.value ++ t) b.written
            ∙ sym (append_assoc (F.written f.value) (each_written F g.value) g.rest)
            ∙ ap (λ (t : List A). each_written F t ++ g.rest) v
            ∙ ap (λ (t : List ℕ). each_written F items ++ t) r;
      }

  pub times_law : (n : ℕ) → Lawful (times n F)
  times_law n = record {
    back = λ items rest h.
        let w = both (eqb (length items) n) _ h in
        ap (λ (k : ℕ). each_read F k (each_written F items ++ rest)) (sym (eqb-true (length items) n w.0)) ∙ each_back items rest w.1;
    one = λ s items rest e. let o = each_one n s items rest e in (both_of (eq-eqb _ _ o.size) o.writes, o.written);
  }

  counted_one : (least most : ℕ) (s : List ℕ) (items : List A) (rest : List ℕ) → counted_read least most F s ≡ found items rest
      → ((counted least most F).writes items ≡ true) × (s ≡ (counted least most F).written items ++ rest)
  counted_one least most [] items rest e = absurd (not_nothing e)
  counted_one least most (n ∷ s) items rest e =
      let p = passed (leb least n and leb n most) e in
      let o = each_one n s items rest p.1 in
      let size : length items ≡ n = o.size in
      (rw (size, p.0, o.writes), rw (size, o.written))

  pub counted_law : (least most : ℕ) → Lawful (counted least most F)
  counted_law least most = record {
    back = λ items rest h.
        let w = both (leb least (length items) and leb (length items) most) _ h in
        rw w.0 (each_back items rest w.1);
    one = counted_one least most;
  }

  -- of counts from 0 on, the count of no values is the only one that is zero
  pub counted_alone : (most : ℕ) → leb 0 most ≡ true → Alone [] (counted 0 most F)
  counted_alone most h = record {
    none_writes = rw h;
    none_zero = refl;
    only_none = λ items w z. empty items z;
  }
    where
      empty : (items : List A) → eqb (length items) 0 and all_zero (each_written F items) ≡ true → [] ≡ items
      empty [] z = refl
      empty (a ∷ items) z = absurd (let e = eqb-true (length (a ∷ items)) 0 (both (eqb (length (a ∷ items)) 0) _ z).0 in omega arith)
