pub mod AspectsWritten
pub mod CountBounded
pub mod CallsTold
pub mod RoomLeft
pub mod PlanTold
