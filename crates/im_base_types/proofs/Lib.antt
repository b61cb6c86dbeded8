pub mod Words
pub mod Maps
pub mod Changes
pub mod Nets
pub mod Oldest
pub mod Outcomes
mod WorkedLives
