pub mod StopLaws
pub mod ListLaws
pub mod StepLaws
pub mod FirstAiring
pub mod EntryRows
pub mod CellRows
pub mod TableLaws
mod TimedLaws
