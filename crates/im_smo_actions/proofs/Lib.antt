pub mod Growth
pub mod Standing
pub mod Changes
pub mod Told
