pub mod DirtyTable
pub mod KnownCopies
pub mod Growth
