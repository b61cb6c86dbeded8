pub mod Growth
pub mod Others
pub mod Losers
pub mod Bounds
pub mod KeyRecords
pub mod Steps
pub mod Compensations
pub mod Leaves
pub mod Readings
pub mod Undos
pub mod Openings
pub mod Restarts
pub mod OpenChanges
pub mod Orders
pub mod Latest
mod SyncedFiles
pub mod FullLog
pub mod Ends
