pub mod LogEnds
pub mod Imaging
pub mod PageFile
pub mod OtherLog
pub mod Stands
pub mod Images
pub mod PageCopy
pub mod Takes
