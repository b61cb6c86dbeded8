pub mod Costs
pub mod Goings
pub mod Imaging
pub mod Placing
pub mod NotedCopies
pub mod Flushing
pub mod InCompany
