pub mod Asked
pub mod Kinds
pub mod Layout
pub mod LongValues
pub mod Parts
pub mod Ranges
pub mod Readings
