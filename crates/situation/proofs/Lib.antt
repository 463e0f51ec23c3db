pub mod FlagLaws
pub mod Exchanged
pub mod CountBits
pub mod Taken
pub mod Watched
pub mod CodeSets
pub mod HasWords
pub mod OpenBits
