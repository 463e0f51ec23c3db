pub mod Question
pub mod Refusal
pub mod Read
pub mod Listed
pub mod Found
pub mod Given
pub mod GivenAs
