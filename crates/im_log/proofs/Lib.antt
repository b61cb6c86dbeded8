pub mod Above
pub mod Backward
pub mod Creations
pub mod Switching
pub mod Openings
pub mod Outcomes
pub mod Passes
pub mod Places
pub mod Runs
pub mod Spans
pub mod Spells
pub mod Waiting
mod SpelledRecords
mod SpelledGates
