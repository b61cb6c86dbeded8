pub mod Disturbed
pub mod Judged
pub mod Shows
pub mod Replies
