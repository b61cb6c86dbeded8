pub mod Costs
pub mod Runs
pub mod Ends
pub mod Stops
