pub mod DisturbedReplies
pub mod Entries
pub mod Fronts
pub mod Returned
pub mod Shows
pub mod Replies
