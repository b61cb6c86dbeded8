pub mod Tables
mod Places
pub mod Lists
pub mod OnePage
pub mod TableSteps
pub mod KnownCopies
pub mod Growing
pub mod DurableCopies
