pub mod Saying
pub mod Spellings
pub mod Stops
pub mod Runs
mod WorkedHeader
