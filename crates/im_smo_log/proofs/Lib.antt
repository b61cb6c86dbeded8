pub mod PageBytes
pub mod Records
pub mod ChangeLogs
pub mod Closing
pub mod Refusals
pub mod Runs
pub mod Nets
mod ImagePlaces
pub mod DoneNumbers
pub mod Others
pub mod Going
pub mod Coming
pub mod BetweenSteps
pub mod Stepping
