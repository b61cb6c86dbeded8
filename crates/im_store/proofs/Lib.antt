pub mod Keeping
mod LogLengths
mod Synced
pub mod Ended
pub mod Kept
pub mod Opened
