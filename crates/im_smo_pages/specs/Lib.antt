pub mod Bodies
pub mod Parts
pub mod Images
pub mod Changed
pub mod OnImages
pub mod OnWay
pub mod Seen
pub mod Kept
