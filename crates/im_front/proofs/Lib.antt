pub mod Acknowledging
pub mod Balance
pub mod Growing
pub mod Replies
pub mod Steps
pub mod Unforced
mod Cuts
