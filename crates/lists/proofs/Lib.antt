pub mod Chunks
pub mod EventsApart
pub mod RightLists
