pub mod Aspects
pub mod Covering
pub mod Laws
