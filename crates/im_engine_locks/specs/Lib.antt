pub mod Requests
pub mod Keys
pub mod Index
pub mod Places
pub mod Owned
pub mod InStep
pub mod Found
