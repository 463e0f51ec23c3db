-- A key fetched by calls of `folvkin_key`, each continuing after the last slot of the one before.
use Rattle.std.specs.Prelude.{ℕ, ◌≡◌, cond, List, [], ◌∷◌, map, eqb}
use Rattle.keylaws.specs.Parts.{Part, handed, last_slot}
use Rattle.folvkin.specs.Questions.{key_packed, key_room}
use Rattle.calllaws.specs.Told.{Call, refusal_told, second_told, third_told}

-- by the contract of `folvkin_key`
abbrev pub key_call : List ℕ → List ℕ → List ℕ → Call
key_call question after room = record { told = key_packed question after room; room = key_room question after room }

-- what the call tells: `refusal + 2^8 more + 2^16 count`, and the slots in the room
abbrev pub part_told : Call → Part
part_told c = handed c.room (third_told c) (eqb (second_told c) 1)

-- a call for each room, until one tells that none remain
unfoldable pub key_calls : List ℕ → List ℕ → List (List ℕ) → List Call
key_calls question after [] = []
key_calls question after (room ∷ rooms) =
    let c = key_call question after room in
    c ∷ cond (part_told c).more (key_calls question (last_slot (part_told c)) rooms) []

abbrev pub parts_told : List Call → List Part
parts_told calls = map part_told calls

abbrev pub NoneRefused : List Call → Type 0
NoneRefused [] = Unit {0}
NoneRefused (c ∷ calls) = (refusal_told c ≡ 0) × NoneRefused calls
