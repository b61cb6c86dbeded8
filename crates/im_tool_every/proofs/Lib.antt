pub mod Fronts
pub mod LeftFiles
pub mod LikeLives
pub mod Lives
pub mod Opens
pub mod TornFiles
pub mod Turns
pub mod Verdicts
