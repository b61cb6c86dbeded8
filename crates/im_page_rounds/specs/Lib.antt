pub mod Rounds
pub mod OnePage
pub mod Hand
pub mod Dealing
pub mod Workers
