pub mod Applicable
pub mod Applying
pub mod ChangeLsns
pub mod Loading
pub mod Counting
pub mod Between
pub mod Ordered
pub mod Parts
pub mod Passing
pub mod Planned
pub mod Raised
pub mod Reached
pub mod Recoveries
pub mod Runs
pub mod RoundsApplied
pub mod RoundsPassed
pub mod Windows
pub mod Within
mod Rooms
mod SameCounts
