pub mod Accepted
pub mod FoundThere
pub mod GivenThere
pub mod ReadBytes
pub mod Longest
pub mod RefusalsBelow
