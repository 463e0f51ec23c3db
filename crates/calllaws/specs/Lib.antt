pub mod Told
pub mod KeyCalls
pub mod EventCalls
pub mod Answers
pub mod Laws
