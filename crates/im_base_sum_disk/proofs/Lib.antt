pub mod Stopping
pub mod AtPlaces
pub mod Stopped
