pub mod Pages
pub mod Rounds
pub mod Held
pub mod Sums
pub mod Changes
pub mod OnePage
pub mod Places
mod Together
pub mod HandPages
