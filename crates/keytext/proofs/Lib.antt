pub mod RoomLaws
pub mod DecimalLaws
pub mod WordLaws
pub mod LineLaws
pub mod LinesOfSlots
pub mod DecimalReadsBack
