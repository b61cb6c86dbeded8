pub mod LogEnds
pub mod ImageCalls
pub mod PageFiles
pub mod Standing
pub mod ImageSteps
pub mod Openings
pub mod WaitingRecords
pub mod OtherLog
