pub mod RulesOf
pub mod Told
pub mod Judged
pub mod Wanted
