pub mod Form
pub mod Compose
pub mod Choices
pub mod Laws
pub mod Whole
pub mod Taken
