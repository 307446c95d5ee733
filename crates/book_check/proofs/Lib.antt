pub mod LineLaws
pub mod SoFarLaws
pub mod BookLaws
pub mod PageCounts
pub mod OneCheck
pub mod Groups
