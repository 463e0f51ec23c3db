-- Lemmas that belong to no one function.
pub mod Comparing
pub mod Ranges
pub mod Quotient
pub mod Rounding
pub mod Patterns
pub mod Cutting
pub mod Scaling
pub mod Stepping
pub mod SameValue
pub mod NumberLine
