mod Walks
mod Short
pub mod Cuts
