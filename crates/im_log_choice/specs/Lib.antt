pub mod Current
pub mod Found
pub mod Chosen
pub mod Switching
pub mod Laws
