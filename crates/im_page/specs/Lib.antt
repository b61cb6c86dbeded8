pub mod Edit
pub mod Sound
pub mod LeafChange
pub mod LeafEdits
