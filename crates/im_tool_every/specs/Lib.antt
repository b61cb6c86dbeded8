pub mod Torn
pub mod Opened
pub mod Counted
pub mod Failing
pub mod Guarded
pub mod Stopped
pub mod Swept
