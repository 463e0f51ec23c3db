pub mod WordLaws
pub mod RecordParts
