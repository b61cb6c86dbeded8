pub mod Frames
pub mod Inside
pub mod Pool
pub mod Writes
pub mod Places
