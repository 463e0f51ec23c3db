pub mod Key
pub mod Calls
pub mod Told
