pub mod Questions
pub mod Disks
pub mod Ways
