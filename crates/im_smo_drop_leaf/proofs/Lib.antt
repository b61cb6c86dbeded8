pub mod Placing
pub mod OneLeaf
pub mod Leaving
pub mod Frees
pub mod WithoutEntries
pub mod Plans
pub mod PlanWays
mod Results
