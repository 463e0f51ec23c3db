pub mod LeftLaws
pub mod PieceSteps
pub mod FromKey
pub mod PiecesJoined
pub mod NotEnded
pub mod EnoughInput
pub mod ShortText
pub mod MarkedRun
