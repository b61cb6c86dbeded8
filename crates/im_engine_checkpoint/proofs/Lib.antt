pub mod RowLists
pub mod Points
