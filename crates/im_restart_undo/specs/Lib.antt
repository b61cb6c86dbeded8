pub mod Records
pub mod Place
pub mod Undoing
pub mod Planning
pub mod GoingBeside
