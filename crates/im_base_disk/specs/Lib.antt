pub mod Disk
pub mod Sums
pub mod Runs
pub mod Ends
