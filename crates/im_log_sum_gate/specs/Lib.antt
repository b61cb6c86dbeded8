pub mod Batches
pub mod Laws
pub mod Sealed
pub mod Gate
