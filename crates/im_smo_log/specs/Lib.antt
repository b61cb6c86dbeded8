pub mod Logged
pub mod Changes
pub mod Under
pub mod ChangePages
pub mod GoingOn
pub mod BetweenSteps
pub mod Marks
pub mod Stepping
