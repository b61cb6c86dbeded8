pub mod Costs
pub mod Writing
pub mod Rooms
