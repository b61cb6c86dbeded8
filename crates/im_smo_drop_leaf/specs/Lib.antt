pub mod Plan
pub mod Emptied
pub mod Chains
pub mod Ways
pub mod Given
