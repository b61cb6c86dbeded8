pub mod Folders
pub mod Opened
pub mod Closed
pub mod Refusals
pub mod Copied
