pub mod Fills
pub mod Moments
pub mod Patch
pub mod StopLemmas
pub mod Synced
