pub mod Calls
pub mod Entries
pub mod Openings
pub mod Sessions
pub mod Made
pub mod Copies
pub mod Loads
pub mod Named
