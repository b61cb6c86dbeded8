pub mod Rows
pub mod RedoPoint
