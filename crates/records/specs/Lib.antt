pub mod Plan
pub mod Situation
pub mod Lists
pub mod Question
pub mod InBytes
pub mod Sizes
pub mod Laid
pub mod Laws
