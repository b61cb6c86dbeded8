pub mod Reading
pub mod Laws
pub mod Going
pub mod TwoSyncs
pub mod Headers
pub mod Puts
mod WorkedSums
