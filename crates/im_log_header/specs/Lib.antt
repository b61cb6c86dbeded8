pub mod Header
pub mod Start
pub mod Laws
