pub mod Ends
pub mod Readings
pub mod Turning
pub mod LoggingBack
pub mod TurningBeside
pub mod SplitsBack
pub mod BehindChanges
pub mod InSteps
