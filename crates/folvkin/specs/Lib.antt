pub mod Block
pub mod Questions
pub mod ShownInTurn
