pub mod EntryTexts
pub mod KeyWords
pub mod StepSpelled
pub mod Texts
