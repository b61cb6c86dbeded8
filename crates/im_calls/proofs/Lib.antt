pub mod Buffers
pub mod Entries
mod Causes
mod Limits
mod Named
