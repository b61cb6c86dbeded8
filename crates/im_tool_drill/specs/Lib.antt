pub mod StoreLives
pub mod StoreRuns
