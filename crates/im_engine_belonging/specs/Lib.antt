pub mod Walks
pub mod Guards
