-- A form: how values of a type are written as bytes, how one is read off the front of bytes, and which values it can write.
use Rattle.std.specs.Prelude.{ℕ, Bool, List, ◌++◌, length, drop}

-- what reading gives: nothing, or a value and the bytes that are left
pub data Found (A : Type 0) : Type 0 where
  nothing : Found A
  found : A → List ℕ → Found A

pub record Form (A : Type 0) : Type 0 where
  pub written : A → List ℕ
  pub read : List ℕ → Found A
  pub writes : A → Bool

-- go on with what was found
abbrev pub after : {A B : Type 0} → Found A → (A → List ℕ → Found B) → Found B
after nothing next = nothing
after (found a rest) next = next a rest

-- bytes at the front of lent room; "later bytes keep their values"
abbrev pub laid : List ℕ → List ℕ → List ℕ
laid bytes room = bytes ++ drop (length bytes) room
