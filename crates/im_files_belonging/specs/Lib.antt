pub mod Fronts
pub mod Belonging
pub mod LeftLog
pub mod LogCuts
