-- What the contracts of `numeric` cite. A reader believes Words, Exact, Nearest, Number, Kinds and Told, in this order; Inner is for the proofs and the code below marking's calls alone.
pub mod Exact
pub mod Nearest
pub mod Number
pub mod Kinds
pub mod Told
pub mod Inner
