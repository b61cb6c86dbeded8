pub mod Left
pub mod Model
pub mod ModelFile
pub mod Past
pub mod Plan
pub mod Written
