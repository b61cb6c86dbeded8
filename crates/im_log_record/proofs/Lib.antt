pub mod Words
pub mod Heads
pub mod Keyed
pub mod Rows
pub mod Tables
pub mod Theorems
pub mod Buffers
