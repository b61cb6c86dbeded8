pub mod Header
pub mod Laws
