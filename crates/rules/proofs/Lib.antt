pub mod RunSteps
pub mod EachEvent
pub mod ReadingSteps
pub mod ReadingsTogether
pub mod RunNames
