pub mod Write
pub mod InCode
