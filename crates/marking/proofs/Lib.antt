-- Theorems, named by what they say.
pub mod ModelIsNearest
pub mod ModelIsMarkedRight
pub mod ModelTypedBack
pub mod ErrorIsTheCut
pub mod LineReadsBack
pub mod MinusZeroIsZero
pub mod AnswerHasItsUnit
pub mod UnitJudgedFirst
pub mod OnlyBy23
pub mod ExampleNine
pub mod ExampleTen
-- Lemmas that belong to no one function.
mod Units
mod Lines
mod TypedCall
