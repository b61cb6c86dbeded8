pub mod DropPlan
pub mod Structure
pub mod GoingBeside
