pub mod Accepted
pub mod SixBytes
pub mod PlacesOfASlot
pub mod KeyOfAQuestion
mod OneNumber
pub mod RefusedCalls
pub mod OneResult
