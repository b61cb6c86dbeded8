pub mod ChildLemmas
pub mod ContentLemmas
pub mod EntryLemmas
pub mod FormLemmas
pub mod FoundLemmas
pub mod Order
pub mod PageFileLemmas
pub mod SplitLemmas
