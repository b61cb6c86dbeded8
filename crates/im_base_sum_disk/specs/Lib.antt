pub mod Leaves
pub mod Digest
