pub mod OwnAnswer
pub mod Attempted
