pub mod Choices
pub mod Names
pub mod SwitchStops
pub mod SwitchedFiles
