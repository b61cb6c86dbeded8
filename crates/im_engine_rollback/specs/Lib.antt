pub mod Ends
pub mod Going
pub mod Turns
pub mod EndsBeside
pub mod TurnsBeside
pub mod SplitsBack
pub mod InSteps
