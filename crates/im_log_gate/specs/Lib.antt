pub mod Batches
pub mod Gate
pub mod Switching
pub mod Header
pub mod Outcome
