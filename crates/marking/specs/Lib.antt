-- What the contracts of `marking` cite. A reader believes Sheet, Told and Typed, in this order, after those of `numeric`.
pub mod Sheet
pub mod Told
pub mod Typed
