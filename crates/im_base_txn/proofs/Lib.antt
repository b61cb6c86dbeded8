pub mod RowLemmas
pub mod LookUps
pub mod Waiting
