pub mod Opposing
pub mod FirstRule
pub mod BothExits
pub mod OffRedSomewhere
